use lib.ListN.{drop}
use Rattle.image.specs.Image.{processes_from}
use Rattle.image_write.specs.Code.Bytes.{processes_bytes}
use Rattle.image_write.proofs.Going.{Going}
use Rattle.image_write.proofs.put_queues.Given as goal

abbrev pub invariant-loop-k : goal.invariant-loop-k
invariant-loop-k l = Going l.at (processes_bytes (processes_from l.psw 0 l.fn.queues)) l.initial.output l.output l.p (processes_bytes (processes_from l.psw l.k (drop l.k l.fn.queues)))
