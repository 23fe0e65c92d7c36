use mathlib.Core.Path.{refl}
use Rattle.library.specs.Promises.{run_answered}
use Rattle.run_schedule.proofs.refused.Goals as goal

pub returns : goal.returns
unfolding run_answered
returns c = rw c.no_counts.ensures refl
