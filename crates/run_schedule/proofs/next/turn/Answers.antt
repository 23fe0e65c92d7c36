use native.Mathlib.Omega.{arith}
use mathlib.Core.Path.{refl}
use Rattle.run_rings.specs.Laws.Rings.{turn_moves, turn_stays}
use Rattle.run_schedule.proofs.next.turn.Goals as goal

pub returns-then-len-lt2 : goal.returns-then-len-lt2
returns-then-len-lt2 c = (turn_stays _ _ _ _ _ refl (omega arith), refl)

pub returns : goal.returns
returns c = (turn_moves _ _ _ _ _ (omega arith) refl (omega arith), refl)
