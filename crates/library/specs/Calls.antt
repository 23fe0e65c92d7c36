-- The calls of the library: what each answers, and what it leaves in the lent buffers. The first refusal that applies is returned, with
-- nothing else, and every lent byte stays.
use Rattle.std.specs.Prelude.{ℕ, Bool, cond, not, ◌&&◌, List, ltb, length, Option, None, Some}
use Rattle.refusal.specs.declared.Refusal.{Refusal}
use Rattle.refusal.specs.declared.Refusal.TheVariants.{ShortBuffer, UnsoundState, ItemOutOfRange}
use Rattle.step.specs.declared.Ending.{Ending}
use Rattle.step.specs.Step.{item}
use Rattle.step.specs.Soundness.{sound}
use Rattle.run.specs.Schedule.{item_sound, schedule_refusal}
use Rattle.run.specs.Run.{Tally, run}
use Rattle.image.specs.Image.{state_of, Decoded, bad, good, decode, encode}
use Rattle.image.specs.Fields.{over}
use Rattle.library.specs.declared.Sizes.{Sizes}
use Rattle.library.specs.Buffers.{Buffers, Room, room_of, fits, sizes_of, fields_in, holding}

-- what a call answers: a refusal, or a value
pub data Answer (A : Type 0) : Type 0 where
  refuses : Refusal → Answer A
  answers : A → Answer A

-- a refusal, or else a value
unfoldable pub unless : {A : Type 0} → Option Refusal → A → Answer A
unless (Some e) a = refuses e
unless None a = answers a

-- what a call leaves: on a refusal all stays
unfoldable pub leaving : {A B : Type 0} → Answer A → (before after : B) → B
leaving (refuses e) before after = before
leaving (answers a) before after = after

-- ---- checking an image: the image's refusals. Its answer is the sizes of the state

unfoldable pub check_answer : Decoded → Answer Sizes
check_answer (bad e) = refuses e
check_answer (good i) = answers (sizes_of (state_of i))

-- ---- reading: the image's refusals, then 7. Its answer is the sizes of the state

unfoldable pub decoded_refusal : Room → Decoded → Option Refusal
decoded_refusal room (bad e) = Some e
decoded_refusal room (good i) = cond (not (fits (sizes_of (state_of i)) room)) (Some ShortBuffer) None

unfoldable pub read_refusal : Room → (bytes : List ℕ) → Option Refusal
read_refusal room bytes = decoded_refusal room (decode bytes)

unfoldable pub decoded_answer : Room → Decoded → Answer Sizes
decoded_answer room (bad e) = refuses e
decoded_answer room (good i) = unless (decoded_refusal room (good i)) (sizes_of (state_of i))

unfoldable pub read_answer : Room → (bytes : List ℕ) → Answer Sizes
read_answer room bytes = decoded_answer room (decode bytes)

unfoldable pub decoded_leaves : Buffers → Decoded → Buffers
decoded_leaves b (bad e) = b
decoded_leaves b (good i) = leaving (decoded_answer (room_of b) (good i)) b (holding (state_of i) b)

unfoldable pub read_leaves : Buffers → (bytes : List ℕ) → Buffers
read_leaves b bytes = decoded_leaves b (decode bytes)

-- ---- a state in buffers

-- a state buffer is shorter than its size, or the state isn't sound: no image reads as it, an array has another length, or a live count is not
-- the one found by counting
unfoldable pub state_refused : Sizes → Buffers → Bool
state_refused n b = not (fits n (room_of b) && sound (fields_in n b))

-- 8
unfoldable pub state_refusal : Sizes → Buffers → Option Refusal
state_refusal n b = cond (state_refused n b) (Some UnsoundState) None

-- the first of two refusals
unfoldable pub or_else : Option Refusal → Option Refusal → Option Refusal
or_else (Some e) f = Some e
or_else None f = f

-- ---- a run: 8, then 9, then 10. Its answer is the counts of the endings, in all and of each task number

unfoldable pub run_refusal : Sizes → Buffers → (schedule : List ℕ) → Option Refusal
run_refusal n b schedule = or_else (state_refusal n b) (schedule_refusal schedule)

unfoldable pub run_answer : Sizes → Buffers → (schedule : List ℕ) → Answer Tally
run_answer n b schedule = unless (run_refusal n b schedule) (run schedule (fields_in n b)).notes

unfoldable pub run_leaves : Sizes → Buffers → (schedule : List ℕ) → Buffers
run_leaves n b schedule = leaving (run_answer n b schedule) b (holding (run schedule (fields_in n b)).state b)

-- ---- one item of a task: 8, then 10. Its answer is how the item ends

unfoldable pub task_refusal : (t : ℕ) → Option Refusal
task_refusal t = cond (not (item_sound t)) (Some ItemOutOfRange) None

unfoldable pub step_refusal : Sizes → Buffers → (t : ℕ) → Option Refusal
step_refusal n b t = or_else (state_refusal n b) (task_refusal t)

unfoldable pub step_answer : Sizes → Buffers → (t : ℕ) → Answer Ending
step_answer n b t = unless (step_refusal n b t) (item t (fields_in n b)).ending

unfoldable pub step_leaves : Sizes → Buffers → (t : ℕ) → Buffers
step_leaves n b t = leaving (step_answer n b t) b (holding (item t (fields_in n b)).state b)

-- ---- writing into a buffer of bytes: 8, then 7. Its answer is the length of the image

unfoldable pub output_refusal : (room : ℕ) → (image : List ℕ) → Option Refusal
output_refusal room image = cond (ltb room (length image)) (Some ShortBuffer) None

unfoldable pub write_refusal : Sizes → Buffers → (room : ℕ) → Option Refusal
write_refusal n b room = or_else (state_refusal n b) (output_refusal room (encode (fields_in n b)))

unfoldable pub write_answer : Sizes → Buffers → (room : ℕ) → Answer ℕ
write_answer n b room = unless (write_refusal n b room) (length (encode (fields_in n b)))

unfoldable pub write_leaves : Sizes → Buffers → (output : List ℕ) → List ℕ
write_leaves n b output = leaving (write_answer n b (length output)) output (over (encode (fields_in n b)) output)
