use mathlib.Core.Path.{refl, ◌∙◌}
use native.Mathlib.Omega.{arith}
use lib.ListN.{length-set}
use Rattle.image.specs.Image.{queues_of}
use Rattle.image_read.proofs.Table.{queues_go}
use Rattle.image_read.proofs.queues_at.Goals as goal

pub loop-k-init : goal.loop-k-init
unfolding queues_of
loop-k-init c = (refl, refl)

pub loop-k-preserved : goal.loop-k-preserved
loop-k-preserved c = let l = c.loop-k in (length-set l.queues l.k _ ∙ l.invariant.0, queues_go l.queues l.k _ _ (omega arith) c.queue_at.ensures l.invariant.1)
