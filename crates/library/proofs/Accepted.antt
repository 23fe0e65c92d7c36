-- Which images reading accepts, and when the state in the buffers is refused with 8.
use Rattle.std.proofs.Common.{None}
use Rattle.std.specs.Prelude.{ℕ, ◌≡◌, true, List, ◌↔◌}
use Rattle.step.proofs.LiveCounts.{Counted}
use Rattle.image.specs.Image.{Image, good, decode}
use Rattle.image.specs.Fields.{SomeImageReads, shaped}
use Rattle.image.proofs.RoundTrips.{sound_iff}
use Rattle.library.specs.declared.Sizes.{Sizes}
use Rattle.library.specs.Buffers.{Buffers, Room, room_of, fits, fields_in}
use Rattle.library.specs.Calls.{read_refusal, state_refusal, run_answer, step_answer, write_answer}
use Rattle.library.specs.Numbers.{number_answered}
use Rattle.library.proofs.InTurn.{sizes_read}
use Rattle.library.proofs.Laws.InTurn.{read_unrefused, state_unrefused}
use Rattle.library.proofs.Laws.Refused.{state_parts}
use Rattle.library.proofs.Laws.Accepted.{room_for, room_fits, read_decoded, run_refused_8, step_refused_8, write_refused_8}

-- an image is accepted if reading it into long enough buffers isn't refused
pub accepted_iff : (bytes : List ℕ) → ((i : Image) × (decode bytes ≡ good i)) ↔ ((room : Room) × (read_refusal room bytes ≡ None))
accepted_iff bytes = (λ p. (room_for p.0, read_unrefused (room_for p.0) bytes p.0 p.1 (room_fits p.0)), λ p. read_decoded p.0 bytes p.1)

-- and then it isn't refused in any buffers that are long enough
pub accepted_by_any_room : (room : Room) (bytes : List ℕ) (i : Image) → decode bytes ≡ good i → fits (sizes_read i) room ≡ true → read_refusal room bytes ≡ None
accepted_by_any_room room bytes i d f = read_unrefused room bytes i d f

-- what the buffers hold is a state: no buffer is shorter than its size, the arrays have the machine's lengths, the live counts are those found
-- by counting, and some accepted image reads as the first places of the buffers
pub record SomeImageHeld (n : Sizes) (b : Buffers) : Type 0 where
  pub fitting : fits n (room_of b) ≡ true
  pub lengths : shaped (fields_in n b) ≡ true
  pub counted : Counted b.table.users
  pub read : SomeImageReads (fields_in n b)

-- a state in buffers is accepted exactly then
pub state_accepted_iff : (n : Sizes) (b : Buffers) → (state_refusal n b ≡ None) ↔ SomeImageHeld n b
unfolding fields_in
state_accepted_iff n b = (
  (λ e. let p = state_parts n b e in let u = (sound_iff (fields_in n b)).0 p.1 in record { fitting = p.0; lengths = u.0; counted = u.1.0; read = u.1.1 }),
  (λ h. state_unrefused n b h.fitting ((sound_iff (fields_in n b)).1 (h.lengths, (h.counted, h.read)))),
)

-- a run, a step and a write answer 8 exactly otherwise
pub run_8 : (n : Sizes) (b : Buffers) (schedule : List ℕ) → (number_answered (run_answer n b schedule) ≡ 8) ↔ (¬ SomeImageHeld n b)
run_8 n b schedule = run_refused_8 n b schedule (SomeImageHeld n b) (state_accepted_iff n b)

pub step_8 : (n : Sizes) (b : Buffers) (t : ℕ) → (number_answered (step_answer n b t) ≡ 8) ↔ (¬ SomeImageHeld n b)
step_8 n b t = step_refused_8 n b t (SomeImageHeld n b) (state_accepted_iff n b)

pub write_8 : (n : Sizes) (b : Buffers) (room : ℕ) → (number_answered (write_answer n b room) ≡ 8) ↔ (¬ SomeImageHeld n b)
write_8 n b room = write_refused_8 n b room (SomeImageHeld n b) (state_accepted_iff n b)
