use native.Mathlib.Omega.{arith}
use lib.ListN.{length-set}
use mathlib.Core.Path.{◌∙◌}
use Rattle.run_schedule.specs.Laws.Carried.{copies_own, all_copied}
use Rattle.run_schedule.proofs.own_of.Goals as goal

pub loop-t-preserved : goal.loop-t-preserved
loop-t-preserved c = let l = c.loop-t in (length-set l.own l.t _ ∙ l.invariant.0, rw c.own_at.ensures (copies_own _ l.own l.t (omega arith) (omega arith) l.invariant.1))

pub returns : goal.returns
returns c = let l = c.loop-t in all_copied _ l.own l.t (omega arith) l.invariant.0 l.invariant.1
