-- Read, run and written, one after another: what the three calls promise is a run of the state that the image is.
use Rattle.std.specs.Prelude.{ℕ, ◌+◌, ◌≤◌, ◌≡◌, true, List, ◌++◌, drop, None, Result, Ok}
use Rattle.std.proofs.Common.{sym, ap, ◌∙◌, subst, arith}
use Rattle.std.proofs.Math.ListN.{length}
use Rattle.std.proofs.Math.Seq.{drop-append_seam}
use borrow.Author.Tests.{le-ltb}
use Rattle.step.specs.State.{State}
use Rattle.step.specs.Soundness.{sound}
use Rattle.run.specs.Run.{run}
use Rattle.run.proofs.Laws.Run.{run_lengths}
use Rattle.run.proofs.Kept.{run_keeps_sound}
use Rattle.run.specs.Schedule.{schedule_refusal}
use Rattle.library.specs.declared.RunResult.{RunResult}
use Rattle.image.specs.Codec.{Bytes}
use Rattle.image.specs.Image.{Image, good, state_of, decode, encode}
use Rattle.image.specs.Fields.{over}
use Rattle.image.proofs.RoundTrips.{reads_only_sound}
use Rattle.library.specs.declared.Sizes.{Sizes}
use Rattle.library.specs.Buffers.{Buffers, room_of, fits, sizes_of, fields_in, holding}
use Rattle.library.specs.Calls.{unless, leaving, or_else, decoded_refusal, read_refusal, read_leaves, state_refused, state_refusal, run_refusal, run_answer, run_leaves, output_refusal, write_refusal, write_answer, write_leaves}
use Rattle.library.proofs.InPlace.{read_in_place, run_in_place}
use Rattle.library.proofs.Laws.InPlace.{Sized, held_by_read, read_sized, lengths_sized}
use Rattle.library.specs.Promises.{ReadPromise, run_answered, RunPromise, write_answered, WritePromise}
use Rattle.batch.specs.Laws.Room.{room_kept}
use Rattle.hep_c.specs.Answers.{growth}
use Rattle.hep_c.specs.Laws.Grown.{grown}
use Rattle.refusal.specs.declared.Refusal.{Refusal}

-- ---- buffers that hold a state

module _ {A : Type 0} where
  over_twice : (n : ℕ) (xs ys l : List A) → length xs ≡ n → length ys ≡ n → over xs (over ys l) ≡ over xs l
  over_twice n xs ys l e f =
      let k : length xs ≡ length ys = e ∙ sym f in
      ap (λ (j : ℕ). xs ++ drop j (over ys l)) k ∙ ap (λ m. xs ++ m) (drop-append_seam ys (drop (length ys) l)) ∙ ap (λ (j : ℕ). xs ++ drop j l) (sym k)

-- of two states with the same counts the later is held
held_twice : (n : Sizes) (s t : State) (b : Buffers) → Sized n s → Sized n t → holding t (holding s b) ≡ holding t b
unfolding holding
held_twice n s t b z y =
    rw (
      over_twice n.rows t.rows s.rows b.rows y.rows z.rows,
      over_twice n.constants t.constants.tags s.constants.tags b.constant_tags y.constant_tags z.constant_tags,
      over_twice n.constants t.constants.words s.constants.words b.constant_words y.constant_words z.constant_words,
      over_twice n.registers t.registers.tags s.registers.tags b.register_tags y.register_tags z.register_tags,
      over_twice n.registers t.registers.words s.registers.words b.register_words y.register_words z.register_words,
      over_twice n.program t.program s.program b.program y.program z.program,
      over_twice n.data_words t.data_words.tags s.data_words.tags b.data_tags y.data_tags z.data_tags,
      over_twice n.data_words t.data_words.words s.data_words.words b.data_words y.data_words z.data_words,
    )

-- a sound state that fits isn't refused
state_fine : (n : Sizes) (b : Buffers) → fits n (room_of b) ≡ true → sound (fields_in n b) ≡ true → state_refusal n b ≡ None
unfolding state_refusal state_refused
state_fine n b f s = rw (f, s)

-- ---- the three calls

module _ (image schedule : List ℕ) (i : Image) (n : Sizes) (bytes : Bytes image) (d : decode image ≡ good i) (sizes : sizes_of (state_of i) ≡ n)
    (b₀ b₁ b₂ : Buffers) (fit : fits n (room_of b₀) ≡ true) (fine : schedule_refusal schedule ≡ None)
    (x : Result Sizes Refusal) (reads : ReadPromise b₀ image x b₁) (y : RunResult) (runs : RunPromise n b₁ schedule y b₂) where
  abbrev after : State
  after = (run schedule (state_of i)).state

  read_fine : read_refusal (room_of b₀) image ≡ None
  unfolding read_refusal decoded_refusal
  read_fine = rw (d, sizes, fit)

  before_sized : Sized n (state_of i)
  before_sized = subst (λ (m : Sizes). Sized m (state_of i)) sizes (read_sized i)

  after_sized : Sized n after
  after_sized = lengths_sized n (state_of i) after before_sized (run_lengths schedule (state_of i))

  after_sound : sound after ≡ true
  after_sound = run_keeps_sound schedule (state_of i) (reads_only_sound image bytes i d)

  held₁ : b₁ ≡ holding (state_of i) b₀
  held₁ = reads.leaves ∙ held_by_read b₀ image i d read_fine

  fields₁ : fields_in n b₁ ≡ state_of i
  fields₁ =
      ap (fields_in n) reads.leaves
      ∙ subst (λ (m : Sizes). fields_in m (read_leaves b₀ image) ≡ state_of i) sizes (read_in_place b₀ image i d read_fine)

  fits₁ : fits n (room_of b₁) ≡ true
  fits₁ = ap (λ (b : Buffers). fits n (room_of b)) held₁ ∙ ap (fits n) (room_kept n (state_of i) b₀ before_sized fit) ∙ fit

  run_fine : run_refusal n b₁ schedule ≡ None
  unfolding run_refusal or_else
  run_fine = rw (state_fine n b₁ fits₁ (ap sound fields₁ ∙ reads_only_sound image bytes i d)) fine

  -- the answer of the run
  pub counted : y ≡ record { answer = Ok (run schedule (state_of i)).notes.counts; own = (run schedule (state_of i)).notes.own }
  unfolding run_answered run_answer unless
  counted = runs.answer ∙ rw (run_fine, fields₁)

  pub fields₂ : fields_in n b₂ ≡ after
  fields₂ = ap (fields_in n) runs.leaves ∙ run_in_place n b₁ schedule run_fine ∙ ap (λ (s : State). (run schedule s).state) fields₁

  -- what the buffers hold after it
  pub held₂ : b₂ ≡ holding after b₀
  unfolding run_leaves run_answer unless leaving
  held₂ =
      runs.leaves ∙ rw (run_fine, fields₁) (ap (holding after) held₁ ∙ held_twice n (state_of i) after b₀ before_sized after_sized)

  pub room₂ : room_of b₂ ≡ room_of b₀
  room₂ = ap room_of held₂ ∙ room_kept n after b₀ after_sized fit

  -- the image after the run has room
  write_fine : (k : ℕ) → length image + growth ≤ k → write_refusal n b₂ k ≡ None
  unfolding write_refusal output_refusal or_else
  write_fine k h =
      let g : length (encode after) ≤ k = omega (arith, grown image i after d after_sound (run_lengths schedule (state_of i))) in
      rw (state_fine n b₂ (ap (fits n) room₂ ∙ fit) (ap sound fields₂ ∙ after_sound), fields₂, le-ltb k (length (encode after)) g)

  module _ (before written : List ℕ) (w : Result ℕ Refusal) (roomy : length image + growth ≤ length before) (writes : WritePromise n b₂ w before written) where
    pub wrote : w ≡ Ok (length (encode after))
    unfolding write_answered write_answer unless
    wrote = writes.answer ∙ rw (write_fine (length before) roomy, fields₂)

    pub image_written : written ≡ over (encode after) before
    unfolding write_leaves write_answer unless leaving
    image_written = writes.leaves ∙ rw (write_fine (length before) roomy, fields₂)
