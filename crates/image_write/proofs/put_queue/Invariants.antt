use Prim.Native.Nat.{◌<◌, ◌-◌}
use Rattle.step.specs.Queues.{list_of}
use Rattle.image.specs.Image.{processes_in}
use Rattle.image_write.specs.Code.Bytes.{processes_bytes}
use Rattle.image_write.proofs.Going.{Going}
use Rattle.image_write.proofs.Parts.{ring_bytes}
use Rattle.image_write.proofs.put_queue.Given as goal

abbrev pub invariant-loop-turn : goal.invariant-loop-turn
invariant-loop-turn l = (l.head < 64) × Going l.at (processes_bytes (processes_in l.psw l.k (list_of l.q))) l.initial.output l.output l.p (ring_bytes l.psw l.k l.q.pts l.head (l.q.len - l._turn))
