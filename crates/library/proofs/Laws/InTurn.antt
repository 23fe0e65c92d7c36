-- Calls that aren't refused, one after another: what the buffers hold after the first is what the second finds.
use Rattle.std.specs.Prelude.{ℕ, ◌≤◌, ◌≡◌, Bool, true, cond, not, List, length, drop}
use Rattle.std.proofs.Common.{sym, ap, ◌∙◌, subst, arith, length-append, length-drop, le-ltb, Option, None, Some}
use Rattle.refusal.specs.declared.Refusal.{Refusal}
use Rattle.refusal.specs.declared.Refusal.TheVariants.{ShortBuffer}
use Rattle.step.specs.State.{State}
use Rattle.step.specs.Soundness.{sound}
use Rattle.run.specs.Schedule.{schedule_sound}
use Rattle.run.proofs.Laws.Run.{sound_unrefused}
use Rattle.run.specs.Run.{run}
use Rattle.run.proofs.Kept.{run_keeps_sound}
use Rattle.image.specs.Codec.{Bytes}
use Rattle.image.specs.Image.{Image, state_of, good, decode, encode}
use Rattle.image.specs.Fields.{over}
use Rattle.image.proofs.RoundTrips.{reads_only_sound, read_then_written}
use Rattle.library.specs.declared.Sizes.{Sizes}
use Rattle.library.specs.Buffers.{Buffers, Room, room_of, fits, sizes_of, fields_in, holding}
use Rattle.library.specs.Calls.{answers, unless, leaving, decoded_refusal, read_refusal, decoded_answer, read_answer, read_leaves, state_refused, state_refusal, or_else, run_refusal, run_answer, run_leaves, output_refusal, write_refusal, write_answer, write_leaves}
use Rattle.library.proofs.InPlace.{read_in_place, run_in_place}
use Rattle.library.proofs.Laws.InPlace.{Sized, holding_fields, read_sized, run_sized, held_by_read}
use Rattle.library.proofs.Laws.Refused.{run_parts}
use Rattle.library.proofs.Laws.Places.{fitting}

-- ---- elements put over the first places of a buffer leave its length

over_length : {A : Type 0} (xs l : List A) → length xs ≤ length l → length (over xs l) ≡ length l
over_length xs l h = omega (arith, length-append xs (drop (length xs) l), length-drop (length xs) l)

-- a state with counts that fit, put into buffers, leaves their lengths
holding_room : (n : Sizes) (s : State) (b : Buffers) → Sized n s → fits n (room_of b) ≡ true → room_of (holding s b) ≡ room_of b
unfolding room_of holding
holding_room n s b z e =
    let u = fitting n (room_of b) e in
    rw (
      over_length s.rows b.rows (omega (arith, z.rows, u.rows)),
      over_length s.constants.tags b.constant_tags (omega (arith, z.constant_tags, u.constant_tags)),
      over_length s.constants.words b.constant_words (omega (arith, z.constant_words, u.constant_words)),
      over_length s.registers.tags b.register_tags (omega (arith, z.register_tags, u.register_tags)),
      over_length s.registers.words b.register_words (omega (arith, z.register_words, u.register_words)),
      over_length s.program b.program (omega (arith, z.program, u.program)),
      over_length s.data_words.tags b.data_tags (omega (arith, z.data_tags, u.data_tags)),
      over_length s.data_words.words b.data_words (omega (arith, z.data_words, u.data_words)),
    )

-- ---- refusals that don't apply

pub read_unrefused : (room : Room) (bytes : List ℕ) (i : Image) → decode bytes ≡ good i → fits (sizes_of (state_of i)) room ≡ true → read_refusal room bytes ≡ None
unfolding read_refusal decoded_refusal
read_unrefused room bytes i d f = ap (decoded_refusal room) d ∙ ap (λ (t : Bool). cond (not t) (Some ShortBuffer) None) f

pub state_unrefused : (n : Sizes) (b : Buffers) → fits n (room_of b) ≡ true → sound (fields_in n b) ≡ true → state_refusal n b ≡ None
unfolding state_refusal state_refused
state_unrefused n b f e = rw (f, e)

pub run_unrefused : (n : Sizes) (b : Buffers) (schedule : List ℕ) → state_refusal n b ≡ None → schedule_sound schedule ≡ true → run_refusal n b schedule ≡ None
unfolding run_refusal or_else
run_unrefused n b schedule e ok = rw (e, sound_unrefused schedule ok)

pub output_unrefused : (room : ℕ) (image : List ℕ) → length image ≤ room → output_refusal room image ≡ None
unfolding output_refusal
output_unrefused room image h = rw (le-ltb room (length image) h)

pub write_unrefused : (n : Sizes) (b : Buffers) (room : ℕ) → state_refusal n b ≡ None → length (encode (fields_in n b)) ≤ room → write_refusal n b room ≡ None
unfolding write_refusal or_else
write_unrefused n b room e h =
    ap (λ (o : Option Refusal). or_else o (output_refusal room (encode (fields_in n b)))) e ∙ output_unrefused room (encode (fields_in n b)) h

-- buffers that hold a sound state whose sizes fit aren't refused
pub held_unrefused : (n : Sizes) (s : State) (b : Buffers) → Sized n s → fits n (room_of b) ≡ true → sound s ≡ true → state_refusal n (holding s b) ≡ None
held_unrefused n s b z f e = state_unrefused n (holding s b) (ap (fits n) (holding_room n s b z f) ∙ f) (ap sound (holding_fields n s b z) ∙ e)

-- ---- what calls that aren't refused answer and leave

pub read_answers : (room : Room) (bytes : List ℕ) (i : Image) → decode bytes ≡ good i → fits (sizes_of (state_of i)) room ≡ true
    → read_answer room bytes ≡ answers (sizes_of (state_of i))
unfolding read_answer decoded_answer decoded_refusal unless
read_answers room bytes i d f = ap (decoded_answer room) d ∙ rw f

pub run_answers : (n : Sizes) (b : Buffers) (schedule : List ℕ) → run_refusal n b schedule ≡ None → run_answer n b schedule ≡ answers (run schedule (fields_in n b)).notes
unfolding run_answer unless
run_answers n b schedule e = rw e

pub run_leaves_lem : (n : Sizes) (b : Buffers) (schedule : List ℕ) → run_refusal n b schedule ≡ None → run_leaves n b schedule ≡ holding (run schedule (fields_in n b)).state b
unfolding run_leaves run_answer unless leaving
run_leaves_lem n b schedule e = rw e

write_answers : (n : Sizes) (b : Buffers) (room : ℕ) → write_refusal n b room ≡ None → write_answer n b room ≡ answers (length (encode (fields_in n b)))
unfolding write_answer unless
write_answers n b room e = rw e

pub write_leaves_lem : (n : Sizes) (b : Buffers) (output : List ℕ) → write_refusal n b (length output) ≡ None → write_leaves n b output ≡ over (encode (fields_in n b)) output
unfolding write_leaves write_answer unless leaving
write_leaves_lem n b output e = rw e

-- ---- read, then run or written

module _ (b : Buffers) (bytes : List ℕ) (i : Image) (hb : Bytes bytes) (d : decode bytes ≡ good i) (f : fits (sizes_of (state_of i)) (room_of b) ≡ true) where
  abbrev n : Sizes
  n = sizes_of (state_of i)

  abbrev held : Buffers
  held = read_leaves b bytes

  unrefused : read_refusal (room_of b) bytes ≡ None
  unrefused = read_unrefused (room_of b) bytes i d f

  is_read_lem : fields_in n held ≡ state_of i
  is_read_lem = read_in_place b bytes i d unrefused

  read_sound : state_refusal n held ≡ None
  read_sound =
      ap (state_refusal n) (held_by_read b bytes i d unrefused) ∙ held_unrefused n (state_of i) b (read_sized i) f (reads_only_sound bytes hb i d)

  module _ (schedule : List ℕ) (ok : schedule_sound schedule ≡ true) where
    pub read_run_unrefused : run_refusal n held schedule ≡ None
    read_run_unrefused = run_unrefused n held schedule read_sound ok

    pub read_run_answers : run_answer n held schedule ≡ answers (run schedule (state_of i)).notes
    read_run_answers = run_answers n held schedule read_run_unrefused ∙ ap (λ (s : State). answers (run schedule s).notes) is_read_lem

    pub read_run_held : fields_in n (run_leaves n held schedule) ≡ (run schedule (state_of i)).state
    read_run_held = run_in_place n held schedule read_run_unrefused ∙ ap (λ (s : State). (run schedule s).state) is_read_lem

  module _ (output : List ℕ) (h : length bytes ≤ length output) where
    is_written : encode (fields_in n held) ≡ bytes
    is_written = ap encode is_read_lem ∙ read_then_written bytes hb i d

    read_write_unrefused : write_refusal n held (length output) ≡ None
    read_write_unrefused = write_unrefused n held (length output) read_sound (subst (λ (l : List ℕ). length l ≤ length output) (sym is_written) h)

    pub read_write_answers : write_answer n held (length output) ≡ answers (length bytes)
    read_write_answers = write_answers n held (length output) read_write_unrefused ∙ ap (λ (l : List ℕ). answers (length l)) is_written

    pub read_write_leaves : write_leaves n held output ≡ over bytes output
    read_write_leaves = write_leaves_lem n held output read_write_unrefused ∙ ap (λ (l : List ℕ). over l output) is_written

-- ---- run, then written

module _ (n : Sizes) (b : Buffers) (schedule : List ℕ) (e : run_refusal n b schedule ≡ None) where
  abbrev after : State
  after = (run schedule (fields_in n b)).state

  is_run : fields_in n (run_leaves n b schedule) ≡ after
  is_run = run_in_place n b schedule e

  pub run_sound_after : sound after ≡ true
  run_sound_after = run_keeps_sound schedule (fields_in n b) (run_parts n b schedule e).1

  run_sound : state_refusal n (run_leaves n b schedule) ≡ None
  run_sound =
      let f = (run_parts n b schedule e).0 in
      ap (state_refusal n) (run_leaves_lem n b schedule e) ∙ held_unrefused n after b (run_sized n b schedule f) f run_sound_after

  module _ (output : List ℕ) (h : length (encode after) ≤ length output) where
    run_write_unrefused : write_refusal n (run_leaves n b schedule) (length output) ≡ None
    run_write_unrefused =
        write_unrefused n (run_leaves n b schedule) (length output) run_sound (subst (λ (s : State). length (encode s) ≤ length output) (sym is_run) h)

    pub run_write_answers : write_answer n (run_leaves n b schedule) (length output) ≡ answers (length (encode after))
    run_write_answers = write_answers n (run_leaves n b schedule) (length output) run_write_unrefused ∙ ap (λ (s : State). answers (length (encode s))) is_run

    pub run_write_leaves : write_leaves n (run_leaves n b schedule) output ≡ over (encode after) output
    run_write_leaves = write_leaves_lem n (run_leaves n b schedule) output run_write_unrefused ∙ ap (λ (s : State). over (encode s) output) is_run
