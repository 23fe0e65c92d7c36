use mathlib.Core.Path.{◌≡◌}
use lib.ListN.{length, take}
use Rattle.image.specs.Image.{queues_of}
use Rattle.image_check.specs.Code.Places.{processes_at}
use Rattle.image_read.proofs.queues_at.Given as goal

abbrev pub invariant-loop-k : goal.invariant-loop-k
invariant-loop-k l = (length l.queues ≡ 16) × (take l.k l.queues ≡ queues_of l.k 0 (processes_at l.m l.at l.image))
