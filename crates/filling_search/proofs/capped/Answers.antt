use Rattle.std.proofs.Common.{arith}
use Rattle.filling_search.specs.Laws.Places.{total_next, total_none}
use Rattle.filling_search.proofs.capped.Goals as goal

pub loop-top-preserved : goal.loop-top-preserved
loop-top-preserved c = omega (arith, total_next c.args.tops.now c.loop-top.top-index (omega arith))

pub returns : goal.returns
returns c = omega (arith, total_none c.args.tops.now c.loop-top.top-index (omega arith))
