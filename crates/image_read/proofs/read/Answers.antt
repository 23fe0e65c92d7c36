use mathlib.Core.Path.{refl, sym, ◌∙◌}
use Rattle.image_read.specs.Laws.Read.{read_refused}
use Rattle.image_read.proofs.read.Goals as goal

pub returns-in-Err : goal.returns-in-Err
returns-in-Err c = let a = c.args in let seven = c.well_formed.0.1.1.0.1.0.1 in rw c.refused.ensures (read_refused _ a.image.now _ (sym c.check-found.ensures ∙ c.in-Err.is), record { count = refl; places = seven; beyond = refl })
