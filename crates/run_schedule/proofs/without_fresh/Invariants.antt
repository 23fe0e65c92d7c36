use lib.ListN.{length, take}
use mathlib.Core.Path.{◌≡◌}
use Rattle.run_schedule.proofs.without_fresh.Given as goal

abbrev pub invariant-loop-k : goal.invariant-loop-k
invariant-loop-k l = (length l.psw ≡ 64) × (take l.k l.psw ≡ take l.k l.psws)
