use mathlib.Core.Path.{refl}
use native.Mathlib.Omega.{arith}
use Rattle.run_rings.specs.Laws.Rings.{join_moves}
use Rattle.run_schedule.proofs.next.join.Goals as goal

pub returns : goal.returns
returns c = join_moves _ _ _ _ _ _ (omega arith) refl (omega arith)
