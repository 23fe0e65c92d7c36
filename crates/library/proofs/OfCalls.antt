-- Of the calls what is stated of the definitions: a refusal changes nothing, 8 comes first, live counts that differ are 8, those that a call leaves
-- are right, each task's own counts add up, and what is written is accepted and reads as the state.
use Rattle.std.specs.Prelude.{ℕ, ◌≤◌, ◌≡◌, refl, List, length}
use Rattle.std.proofs.Common.{sym, ap, ◌∙◌, subst, None, Some, Ok}
use Rattle.refusal.specs.declared.Refusal.{Refusal}
use Rattle.step.specs.State.{State}
use Rattle.step.specs.Step.{item}
use Rattle.step.proofs.LiveCounts.{Counted, sound_counted}
use Rattle.step.proofs.Laws.Item.{item_sound_lem}
use Rattle.run.specs.declared.Counts.{Counts}
use Rattle.run.specs.Run.{summed, Tally, no_tally, run}
use Rattle.run.proofs.Kept.{own_counts_add_up}
use Rattle.image.specs.Image.{Decoded, bad, good, decode, encode}
use Rattle.library.specs.declared.Sizes.{Sizes}
use Rattle.library.specs.Buffers.{Buffers, room_of, fields_in}
use Rattle.library.specs.Calls.{Answer, answers, unless, leaving, read_refusal, decoded_refusal, decoded_answer, read_leaves, decoded_leaves, state_refusal, run_refusal, run_answer, run_leaves, step_refusal, step_answer, step_leaves, write_refusal, write_answer, write_leaves}
use Rattle.library.specs.Numbers.{number_answered}
use Rattle.library.specs.Promises.{run_answered}
use Rattle.library.proofs.InPlace.{run_in_place, step_in_place}
use Rattle.library.proofs.InTurn.{HoldsImage, holds_image}
use Rattle.library.proofs.Accepted.{SomeImageHeld, run_8, step_8, write_8}
use Rattle.library.proofs.Laws.Refused.{run_items_sound, run_state_first, step_state_first, write_state_first, state_parts, step_parts}
use Rattle.library.proofs.Laws.InTurn.{run_answers, run_sound_after, write_unrefused, write_leaves_lem}

-- ---- refused: every lent cell stays

pub read_refused_stays : (b : Buffers) (bytes : List ℕ) (e : Refusal) → read_refusal (room_of b) bytes ≡ Some e → read_leaves b bytes ≡ b
unfolding read_refusal read_leaves decoded_leaves decoded_answer unless leaving
read_refused_stays b bytes e q = go (decode bytes) q
  where
    go : (d : Decoded) → decoded_refusal (room_of b) d ≡ Some e → decoded_leaves b d ≡ b
    go (bad x) k = refl
    go (good i) k = rw k

pub run_refused_stays : (n : Sizes) (b : Buffers) (schedule : List ℕ) (e : Refusal) → run_refusal n b schedule ≡ Some e → run_leaves n b schedule ≡ b
unfolding run_leaves run_answer unless leaving
run_refused_stays n b schedule e q = rw q

pub step_refused_stays : (n : Sizes) (b : Buffers) (t : ℕ) (e : Refusal) → step_refusal n b t ≡ Some e → step_leaves n b t ≡ b
unfolding step_leaves step_answer unless leaving
step_refused_stays n b t e q = rw q

pub write_refused_stays : (n : Sizes) (b : Buffers) (output : List ℕ) (e : Refusal) → write_refusal n b (length output) ≡ Some e → write_leaves n b output ≡ output
unfolding write_leaves write_answer unless leaving
write_refused_stays n b output e q = rw q

-- ---- a state that is refused: so is the call, by the same number, whatever else it is called with

pub run_8_first : (n : Sizes) (b : Buffers) (schedule : List ℕ) (e : Refusal) → state_refusal n b ≡ Some e → run_refusal n b schedule ≡ Some e
run_8_first n b schedule e q = run_state_first n b schedule e q

pub step_8_first : (n : Sizes) (b : Buffers) (t : ℕ) (e : Refusal) → state_refusal n b ≡ Some e → step_refusal n b t ≡ Some e
step_8_first n b t e q = step_state_first n b t e q

pub write_8_first : (n : Sizes) (b : Buffers) (room : ℕ) (e : Refusal) → state_refusal n b ≡ Some e → write_refusal n b room ≡ Some e
write_8_first n b room e q = write_state_first n b room e q

-- ---- the live counts

-- stored counts that are not those found by counting: 8 of every call on a state
pub record Answers8 (n : Sizes) (b : Buffers) : Type 0 where
  pub run : (schedule : List ℕ) → number_answered (run_answer n b schedule) ≡ 8
  pub step : (t : ℕ) → number_answered (step_answer n b t) ≡ 8
  pub write : (room : ℕ) → number_answered (write_answer n b room) ≡ 8

pub uncounted_8 : (n : Sizes) (b : Buffers) → (Counted b.table.users → ⊥) → Answers8 n b
uncounted_8 n b u =
    let no : ¬ SomeImageHeld n b = λ h. u h.counted in
    record { run = λ schedule. (run_8 n b schedule).1 no; step = λ t. (step_8 n b t).1 no; write = λ room. (write_8 n b room).1 no }

-- those that a run and a step leave are those found by counting
pub run_leaves_counted : (n : Sizes) (b : Buffers) (schedule : List ℕ) → run_refusal n b schedule ≡ None → Counted (run_leaves n b schedule).table.users
unfolding fields_in
run_leaves_counted n b schedule e =
    subst (λ (s : State). Counted s.table.users) (sym (run_in_place n b schedule e)) (sound_counted (run schedule (fields_in n b)).state (run_sound_after n b schedule e))

pub step_leaves_counted : (n : Sizes) (b : Buffers) (t : ℕ) → step_refusal n b t ≡ None → Counted (step_leaves n b t).table.users
unfolding fields_in
step_leaves_counted n b t e =
    subst (λ (s : State). Counted s.table.users) (sym (step_in_place n b t e)) (sound_counted (item t (fields_in n b)).state (item_sound_lem t (fields_in n b) (step_parts n b t e).1))

-- ---- each task's own counts

-- those of a run that is refused are zero
pub run_refused_counts : (n : Sizes) (b : Buffers) (schedule : List ℕ) (e : Refusal) → run_refusal n b schedule ≡ Some e
    → (run_answered (run_answer n b schedule)).own ≡ no_tally.own
unfolding run_answered run_answer unless
run_refused_counts n b schedule e q = rw q

-- those of any other add up to the counts that it answers
pub run_counts_add_up : (n : Sizes) (b : Buffers) (schedule : List ℕ) → run_refusal n b schedule ≡ None
    → (run_answered (run_answer n b schedule)).answer ≡ Ok (summed (run_answered (run_answer n b schedule)).own)
unfolding run_answered
run_counts_add_up n b schedule e =
    ap (λ (a : Answer Tally). (run_answered a).answer) answered
    ∙ ap (λ (c : Counts). Ok c) (sym (own_counts_add_up schedule (fields_in n b) (run_items_sound n b schedule e)))
    ∙ ap (λ (a : Answer Tally). Ok (summed (run_answered a).own)) (sym answered)
  where
    answered : run_answer n b schedule ≡ answers (run schedule (fields_in n b)).notes
    answered = run_answers n b schedule e

-- ---- a state that is accepted, written: the output holds its image

pub write_holds : (n : Sizes) (b : Buffers) (output : List ℕ) → state_refusal n b ≡ None → length (encode (fields_in n b)) ≤ length output
    → HoldsImage (fields_in n b) (length (encode (fields_in n b))) (write_leaves n b output)
write_holds n b output e h =
    subst (HoldsImage (fields_in n b) (length (encode (fields_in n b)))) (sym (write_leaves_lem n b output (write_unrefused n b (length output) e h)))
    (holds_image (fields_in n b) output (state_parts n b e).1)
