use mathlib.Core.Path.{sym, ◌∙◌}
use Rattle.hep_c.specs.Laws.Numbers.{check_refused, check_fine}
use Rattle.hep_c.proofs.hep_check.Goals as goal

pub returns-in-Err : goal.returns-in-Err
returns-in-Err c = c.number.ensures ∙ check_refused _ _ (sym c.check-found.ensures ∙ c.in-Err.is)

pub returns-in-Ok : goal.returns-in-Ok
returns-in-Ok c = check_fine _ _ (sym c.check-found.ensures ∙ c.in-Ok.is)
