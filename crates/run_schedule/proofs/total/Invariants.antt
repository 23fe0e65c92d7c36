use lib.ListN.{drop}
use Rattle.run.specs.Run.{plus, summed}
use mathlib.Core.Path.{◌≡◌}
use Rattle.run_schedule.proofs.total.Given as goal

abbrev pub invariant-loop-counts : goal.invariant-loop-counts
invariant-loop-counts l = plus l.sum (summed (drop l.counts-index l.fn.own)) ≡ summed l.fn.own
