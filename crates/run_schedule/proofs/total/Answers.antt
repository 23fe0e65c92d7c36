use native.Mathlib.Omega.{arith}
use mathlib.Core.Path.{◌∙◌}
use Rattle.run.proofs.Laws.Tallies.{none_plus}
use Rattle.run_schedule.specs.Laws.Carried.{sums, small_part, nothing_last}
use Rattle.run_schedule.proofs.total.Goals as goal

pub loop-counts-init : goal.loop-counts-init
loop-counts-init c = rw c.no_counts-sum.ensures (none_plus _)

pub plus-sum-requires : goal.plus-sum-requires
plus-sum-requires c = let l = c.loop-counts in small_part _ _ _ (sums c.args.own l.counts-index l.sum (omega arith) ∙ l.invariant) c.requires

pub loop-counts-preserved : goal.loop-counts-preserved
loop-counts-preserved c = let l = c.loop-counts in rw c.plus-sum.ensures (sums c.args.own l.counts-index l.sum (omega arith) ∙ l.invariant)

pub returns : goal.returns
returns c = let l = c.loop-counts in nothing_last c.args.own l.counts-index l.sum l.invariant (omega arith)
