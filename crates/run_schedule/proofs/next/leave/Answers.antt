use mathlib.Core.Path.{refl}
use native.Mathlib.Omega.{arith}
use Rattle.run_rings.specs.Laws.Rings.{leave_moves}
use Rattle.run_schedule.proofs.next.leave.Goals as goal

pub returns : goal.returns
returns c = leave_moves _ _ _ _ _ (omega arith) (omega arith) refl (omega arith)
