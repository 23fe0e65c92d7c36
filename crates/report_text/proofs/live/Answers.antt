use mathlib.Core.Path.{refl}
use Rattle.step.specs.State.{live_count}
use Rattle.step.specs.Queues.{task_place}
use Rattle.report_text.proofs.live.Goals as goal

pub returns : goal.returns
unfolding live_count task_place
returns c = refl
