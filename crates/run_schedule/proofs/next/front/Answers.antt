use mathlib.Core.Path.{sym}
use Rattle.run_rings.specs.Laws.Rings.{head_at}
use Rattle.run_schedule.proofs.next.front.Goals as goal

pub returns : goal.returns
returns c = sym (head_at _ _ _ _)
