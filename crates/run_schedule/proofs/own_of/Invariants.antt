use lib.ListN.{length, take}
use Rattle.run_next.specs.Code.Tally.{all_own}
use mathlib.Core.Path.{◌≡◌}
use Rattle.run_schedule.proofs.own_of.Given as goal

abbrev pub invariant-loop-t : goal.invariant-loop-t
invariant-loop-t l = (length l.own ≡ 8) × (take l.t l.own ≡ take l.t (all_own l.tally))
