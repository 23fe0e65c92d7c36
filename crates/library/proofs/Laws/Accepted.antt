-- Refusals of reading and of a state in buffers, by what doesn't hold.
use Rattle.std.specs.Prelude.{ℕ, ◌≡◌, refl, Bool, true, cond, not, List, ◌↔◌, ◌≢◌, length, leb, ltb}
use Rattle.std.proofs.Common.{sym, subst, arith, le-leb, Option, None, Some}
use Rattle.std.proofs.Math.Path.{ap}
use Rattle.std.proofs.Math.Bool.{false}
use Rattle.word.proofs.Laws.Conjunctions.{also}
use Rattle.refusal.specs.declared.Refusal.{Refusal}
use Rattle.refusal.specs.declared.Refusal.TheVariants.{ShortBuffer, UnsoundState, ListTooLong, ItemOutOfRange}
use Rattle.refusal.specs.Numbers.{number_of}
use Rattle.step.specs.Soundness.{sound, every}
use Rattle.step.proofs.Laws.Rows.{none_some}
use Rattle.step.specs.Step.{item}
use Rattle.run.specs.Schedule.{most_items, item_sound, schedule_refusal}
use Rattle.run.specs.Run.{run}
use Rattle.image.specs.Image.{Image, state_of, Decoded, bad, good, decode, encode}
use Rattle.library.specs.declared.Sizes.{Sizes}
use Rattle.library.specs.Buffers.{Buffers, Room, room_of, fits, sizes_of, fields_in}
use Rattle.library.specs.Calls.{unless, decoded_refusal, read_refusal, state_refused, state_refusal, or_else, run_refusal, run_answer, task_refusal, step_refusal, step_answer, output_refusal, write_refusal, write_answer}
use Rattle.library.specs.Numbers.{number_answered}
use Rattle.library.proofs.Laws.InTurn.{state_unrefused}

-- ---- reading

-- just enough room for an image
unfoldable pub room_for : Image → Room
room_for i =
    let n : Sizes = sizes_of (state_of i) in
    record {
      rows = n.rows;
      constant_tags = n.constants;
      constant_words = n.constants;
      register_tags = n.registers;
      register_words = n.registers;
      program = n.program;
      data_tags = n.data_words;
      data_words = n.data_words;
    }

pub room_fits : (i : Image) → fits (sizes_of (state_of i)) (room_for i) ≡ true
unfolding room_for fits
room_fits i =
    let n : Sizes = sizes_of (state_of i) in
    let self : (k : ℕ) → leb k k ≡ true = λ k. le-leb k k (omega arith) in
    also (self n.rows) (also (self n.constants) (also (self n.constants) (also (self n.registers) (also (self n.registers) (also (self n.program) (also (self n.data_words) (self n.data_words)))))))

pub read_decoded : (room : Room) (bytes : List ℕ) → read_refusal room bytes ≡ None → (i : Image) × (decode bytes ≡ good i)
unfolding read_refusal decoded_refusal
read_decoded room bytes e = go (decode bytes) refl e
  where
    go : (d : Decoded) → decode bytes ≡ d → decoded_refusal room d ≡ None → (i : Image) × (decode bytes ≡ good i)
    go (bad x) q h = absurd (none_some x (sym h))
    go (good i) q h = (i, q)

-- ---- a state in buffers

-- refused with 8, or not refused
pub data Tested (n : Sizes) (b : Buffers) : Type 0 where
  refused8 : state_refusal n b ≡ Some UnsoundState → Tested n b
  unrefused : state_refusal n b ≡ None → Tested n b

pub tested : (n : Sizes) (b : Buffers) → Tested n b
tested n b = go (fits n (room_of b)) (sound (fields_in n b)) refl refl
  where
    go : (t u : Bool) → fits n (room_of b) ≡ t → sound (fields_in n b) ≡ u → Tested n b
    go true true f e = unrefused (state_unrefused n b f e)
    go true false f e = refused8 (unfold state_refusal state_refused in rw (f, e))
    go false u f e = refused8 (unfold state_refusal state_refused in rw f)

-- ---- 8, where no later refusal has that number

module _ {A : Type 0} (n : Sizes) (b : Buffers) (o : Option Refusal) (a : A) where
  abbrev number : Option Refusal → ℕ
  number x = number_answered (unless (or_else x o) a)

  -- where a state is accepted exactly if P holds, 8 is answered exactly if it doesn't
  pub refused_8 : (P : Type 0) → (state_refusal n b ≡ None) ↔ P → number_answered (unless o a) ≢ 8 → (number (state_refusal n b) ≡ 8) ↔ (¬ P)
  unfolding number_answered unless or_else number_of
  refused_8 P k w = (
    (λ e p. w (subst (λ (x : Option Refusal). number x ≡ 8) (k.1 p) e)),
    (λ h. elim (tested n b) [ refused8 e ↦ ap number e | unrefused e ↦ absurd (h (k.0 e)) ]),
  )

schedule_number : {A : Type 0} (schedule : List ℕ) (a : A) → number_answered (unless (schedule_refusal schedule) a) ≢ 8
unfolding schedule_refusal number_answered unless number_of
schedule_number schedule a = go (ltb most_items (length schedule)) (every item_sound schedule)
  where
    go : (t u : Bool) → number_answered (unless (cond t (Some ListTooLong) (cond (not u) (Some ItemOutOfRange) None)) a) ≢ 8
    go true u = λ e. omega arith
    go false true = λ e. omega arith
    go false false = λ e. omega arith

task_number : {A : Type 0} (t : ℕ) (a : A) → number_answered (unless (task_refusal t) a) ≢ 8
unfolding task_refusal number_answered unless number_of
task_number t a = go (item_sound t)
  where
    go : (u : Bool) → number_answered (unless (cond (not u) (Some ItemOutOfRange) None) a) ≢ 8
    go true = λ e. omega arith
    go false = λ e. omega arith

output_number : {A : Type 0} (room : ℕ) (image : List ℕ) (a : A) → number_answered (unless (output_refusal room image) a) ≢ 8
unfolding output_refusal number_answered unless number_of
output_number room image a = go (ltb room (length image))
  where
    go : (t : Bool) → number_answered (unless (cond t (Some ShortBuffer) None) a) ≢ 8
    go true = λ e. omega arith
    go false = λ e. omega arith

pub run_refused_8 : (n : Sizes) (b : Buffers) (schedule : List ℕ) (P : Type 0) → (state_refusal n b ≡ None) ↔ P → (number_answered (run_answer n b schedule) ≡ 8) ↔ (¬ P)
unfolding run_answer run_refusal
run_refused_8 n b schedule P k =
    let c = (run schedule (fields_in n b)).notes in
    refused_8 n b (schedule_refusal schedule) c P k (schedule_number schedule c)

pub step_refused_8 : (n : Sizes) (b : Buffers) (t : ℕ) (P : Type 0) → (state_refusal n b ≡ None) ↔ P → (number_answered (step_answer n b t) ≡ 8) ↔ (¬ P)
unfolding step_answer step_refusal
step_refused_8 n b t P k =
    let x = (item t (fields_in n b)).ending in
    refused_8 n b (task_refusal t) x P k (task_number t x)

pub write_refused_8 : (n : Sizes) (b : Buffers) (room : ℕ) (P : Type 0) → (state_refusal n b ≡ None) ↔ P → (number_answered (write_answer n b room) ≡ 8) ↔ (¬ P)
unfolding write_answer write_refusal
write_refused_8 n b room P k =
    let l = encode (fields_in n b) in
    refused_8 n b (output_refusal room l) (length l) P k (output_number room l (length l))
