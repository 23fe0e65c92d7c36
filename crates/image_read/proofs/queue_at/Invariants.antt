use Rattle.image_read.proofs.Table.{Queueing}
use Rattle.image_read.proofs.queue_at.Given as goal

abbrev pub invariant-loop-i : goal.invariant-loop-i
invariant-loop-i l = Queueing l.image l.at l.m l.t l.pts l.len l.i
