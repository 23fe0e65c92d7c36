-- The image that hep_run leaves in the output.
use Rattle.std.specs.Prelude.{ℕ, ◌≡◌, List, length, None}
use Rattle.run.specs.Run.{run}
use Rattle.run.proofs.Kept.{run_keeps_sound}
use Rattle.image.specs.Codec.{Bytes}
use Rattle.image.specs.Image.{Image, state_of, good, decode, encode}
use Rattle.image.proofs.RoundTrips.{reads_only_sound}
use Rattle.library.specs.Buffers.{sizes_of}
use Rattle.library.specs.Calls.{unless}
use Rattle.library.proofs.InTurn.{HoldsImage, holds_image}
use Rattle.hep_c.specs.Answers.{Slices, image_run_refusal, image_run_answer, image_run_left}

-- it is accepted and reads as the state after the run
pub output_holds : (image schedule : List ℕ) (l : Slices) (i : Image) → Bytes image → decode image ≡ good i
    → image_run_refusal image schedule (sizes_of (state_of i)) l ≡ None
    → HoldsImage (run schedule (state_of i)).state (length (encode (run schedule (state_of i)).state))
    (image_run_left (image_run_answer image schedule l (decode image)) l).output
unfolding image_run_answer image_run_left unless
output_holds image schedule l i hb d e =
    rw (d, e) (holds_image (run schedule (state_of i)).state l.output (run_keeps_sound schedule (state_of i) (reads_only_sound image hb i d)))
