use Rattle.std.proofs.Common.{◌≡◌, length, take}
use Rattle.run_rings.specs.Code.Rings.{queues_from, ring_count}
use Rattle.run_rings.proofs.queues_of.Given as goal

abbrev pub invariant-loop-k : goal.invariant-loop-k
invariant-loop-k l = (length l.queue-items ≡ ring_count) × (take l.k l.queue-items ≡ queues_from l.k 0 l.pts l.heads l.lens)
