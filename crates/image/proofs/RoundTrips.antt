-- Round trips: reading and writing undo each other, and which states are sound.
use Rattle.std.specs.Prelude.{ℕ, ◌≡◌, true, List, ◌↔◌}
use Rattle.step.specs.State.{State}
use Rattle.step.specs.Soundness.{sound}
use Rattle.step.proofs.LiveCounts.{Counted, sound_counted}
use Rattle.step.proofs.Laws.LiveCounts.{counted_passes}
use Rattle.image.specs.Codec.{Bytes}
use Rattle.image.specs.Image.{Image, good, state_of, image_of, decode, encode}
use Rattle.image.specs.Fields.{SameFields, SomeImageReads, shaped}
use Rattle.image.proofs.Laws.Fields.{shape_of}
use Rattle.image.proofs.Laws.DecodeSound.{decode_sound}
use Rattle.image.proofs.Laws.Trips.{written_again, written_bytes, read_again, same_again, shape_shaped, image_of_sound, sound_of_image}

-- an accepted image, read and written, gives its bytes
pub read_then_written : (bytes : List ℕ) → Bytes bytes → (i : Image) → decode bytes ≡ good i → encode (state_of i) ≡ bytes
read_then_written b hb i h = written_again b hb i h

-- a sound state, written, is a string of bytes that is accepted and read as its fields
pub encode_bytes : (s : State) → Bytes (encode s)
encode_bytes s = written_bytes s

pub written_then_read : (s : State) → sound s ≡ true → decode (encode s) ≡ good (image_of s)
written_then_read s e = read_again s e

-- and so as the same state
pub read_back : (s : State) → sound s ≡ true → SameFields (state_of (image_of s)) s
read_back s e = same_again s e

-- reading accepts only sound states
pub reads_only_sound : (bytes : List ℕ) → Bytes bytes → (i : Image) → decode bytes ≡ good i → sound (state_of i) ≡ true
reads_only_sound b hb i h = decode_sound b hb i h

-- a state is sound exactly if its arrays have the machine's lengths, its live counts are those found by counting, and some accepted image
-- reads as it
pub sound_iff : (s : State) → (sound s ≡ true) ↔ ((shaped s ≡ true) × (Counted s.table.users × SomeImageReads s))
sound_iff s = (
  (λ e. (shape_shaped s (shape_of s e), (sound_counted s e, image_of_sound s e))),
  (λ p. sound_of_image s p.0 (counted_passes s.table.users p.1.0.counts p.1.0.total) p.1.1),
)
