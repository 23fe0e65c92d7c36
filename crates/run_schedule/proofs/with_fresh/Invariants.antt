use lib.ListN.{length, take}
use mathlib.Core.Path.{◌≡◌}
use Rattle.run_schedule.proofs.with_fresh.Given as goal

abbrev pub invariant-loop-k : goal.invariant-loop-k
invariant-loop-k l = (length l.psws ≡ 65) × (take l.k l.psws ≡ take l.k l.psw)
