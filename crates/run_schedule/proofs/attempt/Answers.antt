use mathlib.Core.Path.{refl}
use Rattle.run_schedule.proofs.attempt.Goals as goal

pub returns : goal.returns
returns c = λ row w. c.decide.ensures row w.registers w.program w.bytes refl
