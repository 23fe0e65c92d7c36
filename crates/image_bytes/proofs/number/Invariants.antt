use Prim.Native.Nat.{◌^◌, ◌<◌}
use mathlib.Core.Path.{◌≡◌}
use lib.ListN.{drop}
use Rattle.image.specs.Codec.{number}
use Rattle.image_bytes.proofs.number.Given as goal

abbrev pub invariant-loop-b : goal.invariant-loop-b
invariant-loop-b l = (l.v < 256 ^ l.b-index) × (number l.v (drop l.b-index l.bytes) ≡ number 0 l.bytes)
