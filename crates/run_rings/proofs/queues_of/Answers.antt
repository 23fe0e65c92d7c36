use Rattle.std.proofs.Common.{refl, ◌∙◌, arith, length-set}
use Rattle.run_rings.specs.Code.Rings.{queues_from}
use Rattle.run_rings.specs.Laws.Copies.{queues_go, queues_full}
use Rattle.run_rings.proofs.queues_of.Goals as goal

pub loop-k-init : goal.loop-k-init
unfolding queues_from
loop-k-init c = (refl, refl)

pub loop-k-preserved : goal.loop-k-preserved
loop-k-preserved c =
    let l = c.loop-k in
    (length-set l.queue-items l.k _ ∙ l.invariant.0, queues_go l.queue-items l.k _ _ _ _ (omega arith) c.queue_of.ensures l.invariant.1)

pub returns : goal.returns
returns c = let l = c.loop-k in queues_full l.queue-items l.k _ _ _ l.invariant.0 (omega arith) l.invariant.1
