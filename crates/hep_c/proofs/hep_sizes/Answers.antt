use mathlib.Core.Path.{sym, ◌∙◌}
use Rattle.hep_c.specs.Laws.Numbers.{sizes_refused, sizes_found}
use Rattle.hep_c.proofs.hep_sizes.Goals as goal

pub returns-in-Err : goal.returns-in-Err
returns-in-Err c = let both = sizes_refused _ _ _ _ (sym c.check-found.ensures ∙ c.in-Err.is) c.number.ensures in record { answer = both.0; left = both.1 }

pub returns-in-Ok : goal.returns-in-Ok
returns-in-Ok c = let both = sizes_found c.args.sizes.now _ _ _ _ (sym c.check-found.ensures ∙ c.in-Ok.is) (c.put_sizes.ensures.answer, c.put_sizes.ensures.left) in record { answer = both.0; left = both.1 }
