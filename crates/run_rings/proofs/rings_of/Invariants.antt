use Rattle.std.proofs.Common.{◌≡◌, length, take, drop}
use Rattle.run_rings.specs.Code.Rings.{queues_from, ring_count, ring_places}
use Rattle.run_rings.specs.Code.Laid.{no_rings, queues_laid}
use Rattle.run_rings.proofs.rings_of.Given as goal

abbrev pub invariant-loop-k : goal.invariant-loop-k
invariant-loop-k l =
    (length l.rings.pts ≡ ring_places)
    × (length l.rings.heads ≡ ring_count)
    × (length l.rings.lens ≡ ring_count)
    × (queues_laid l.k (drop l.k l.fn.queues) l.rings ≡ queues_laid 0 l.fn.queues no_rings)
    × (queues_from l.k 0 l.rings.pts l.rings.heads l.rings.lens ≡ take l.k l.fn.queues)
