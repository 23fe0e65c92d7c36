use Rattle.std.proofs.Common.{arith}
use Rattle.run_rings.specs.Laws.Live.{queues_go, queues_end}
use Rattle.run_rings.proofs.free_mask.Goals as goal

pub loop-q-preserved : goal.loop-q-preserved
loop-q-preserved c = let l = c.loop-q in queues_go c.args.queues l.q-index _ _ _ (omega arith) c.free_after-free.ensures l.invariant

pub returns : goal.returns
returns c = let l = c.loop-q in queues_end c.args.queues l.q-index _ _ (omega arith) l.invariant
