use mathlib.Core.Path.{sym, ◌∙◌}
use Rattle.hep_c.specs.Laws.Promised.{check_stays}
use Rattle.hep_c.proofs.hep_run.Goals as goal

pub run_sound-requires : goal.run_sound-requires
run_sound-requires c = sym c.check-found.ensures ∙ c.in-Ok.is

pub returns-in-Err : goal.returns-in-Err
returns-in-Err c = check_stays _ _ _ _ _ (sym c.check-found.ensures ∙ c.in-Err.is) c.number.ensures

pub returns-in-Ok : goal.returns-in-Ok
returns-in-Ok c = c.run_sound.ensures
