use Rattle.step_queue.proofs.Rings.{ring_starts, ring_goes, ring_ends}
use Rattle.std.proofs.Common.{arith}
use Rattle.step_queue.proofs.free_after.Goals as goal

pub loop-init : goal.loop-init
loop-init c = (omega arith, ring_starts c.args.q c.args.free)

pub loop-preserved : goal.loop-preserved
loop-preserved c = (omega arith, ring_goes _ _ _ _ _ _ _ c.loop.invariant.0 c.loop-test.true c.without-free.ensures c.loop.invariant.1)

pub returns : goal.returns
returns c = ring_ends _ _ _ _ _ (omega arith) c.loop.invariant.1
