-- An image of at most 65,536 bytes has room in buffers of 8,192 places, so reading it there is refused by the image's refusals only, or gives a sound state.
use Rattle.std.specs.Prelude.{ℕ, ◌≤◌, true, List, length, Option, None, Some, Result, Ok, Err}
use Rattle.std.proofs.Math.Path.{◌≡◌, refl, ap, subst}
use Rattle.std.proofs.Common.{◌∙◌, arith, le-leb}
use Rattle.word.proofs.Laws.Conjunctions.{also}
use Rattle.refusal.specs.declared.Refusal.{Refusal}
use Rattle.run.specs.Run.{run}
use Rattle.run.specs.Schedule.{schedule_refusal}
use Rattle.image.specs.Codec.{Bytes}
use Rattle.image.specs.Image.{Image, Decoded, bad, good, state_of, decode}
use Rattle.image.proofs.RoundTrips.{reads_only_sound}
use Rattle.image_check.specs.Code.Places.{processes_place, constants_place, registers_place, program_place, data_place, end_place}
use Rattle.image_check.specs.Laws.Found.{Found}
use Rattle.image_read.specs.Laws.Few.{found_few, found_image}
use Rattle.library.specs.declared.Sizes.{Sizes}
use Rattle.library.specs.Buffers.{Buffers, room_of, fits, sizes_of, fields_in}
use Rattle.library.specs.Calls.{unless, or_else, decoded_refusal, read_refusal, decoded_answer, read_answer, state_refused, state_refusal, run_refusal}
use Rattle.library.proofs.InPlace.{read_in_place}
use Rattle.library.proofs.Laws.InPlace.{held_by_read, read_sized}
use Rattle.library.specs.Promises.{read_answered, ReadPromise}
use Rattle.report.specs.Report.{most_input, refusal_line, output_run, output_read}
use Rattle.batch.specs.Output.{run_text}
use Rattle.batch.specs.Laws.Room.{room_kept}

-- seven rows, and seven buffers of 8,192 places
pub record Roomy (b : Buffers) : Type 0 where
  pub rows : length b.rows ≡ 7
  pub constant_tags : length b.constant_tags ≡ 8192
  pub constant_words : length b.constant_words ≡ 8192
  pub register_tags : length b.register_tags ≡ 8192
  pub register_words : length b.register_words ≡ 8192
  pub program : length b.program ≡ 8192
  pub data_tags : length b.data_tags ≡ 8192
  pub data_words : length b.data_words ≡ 8192

-- each value of these sections has 8 or 9 bytes
few_fit : (z : Sizes) (s : List ℕ) (b : Buffers) → Found z s → length s ≤ most_input → Roomy b → fits z (room_of b) ≡ true
unfolding fits room_of end_place data_place program_place registers_place constants_place processes_place
few_fit z s b f h r =
    let e = f.ends in
    also (le-leb z.rows _ (omega (arith, (found_few z s f).0, r.rows)))
    (also (le-leb z.constants _ (omega (arith, e, r.constant_tags)))
    (also (le-leb z.constants _ (omega (arith, e, r.constant_words)))
    (also (le-leb z.registers _ (omega (arith, e, r.register_tags)))
    (also (le-leb z.registers _ (omega (arith, e, r.register_words)))
    (also (le-leb z.program _ (omega (arith, e, r.program)))
    (also (le-leb z.data_words _ (omega (arith, e, r.data_tags))) (le-leb z.data_words _ (omega (arith, e, r.data_words)))))))))

text_of_image : (l : List ℕ) (x : Option Refusal) (i : Image) → run_text x (run l (state_of i)) ≡ output_run x l i
unfolding run_text output_run
text_of_image l None i = refl
text_of_image l (Some e) i = refl

module _ (s : List ℕ) (short : length s ≤ most_input) where
  room_enough : (i : Image) (b : Buffers) → decode s ≡ good i → Roomy b → fits (sizes_of (state_of i)) (room_of b) ≡ true
  room_enough i b d w = few_fit (sizes_of (state_of i)) s b (found_image s i d) short w

  module _ (b b' : Buffers) (roomy : Roomy b) (x : Result Sizes Refusal) (reads : ReadPromise b s x b') where
    read_fine : (i : Image) → decode s ≡ good i → read_refusal (room_of b) s ≡ None
    unfolding read_refusal decoded_refusal
    read_fine i d = rw (d, room_enough i b d roomy)

    -- an accepted image is read
    read_good : (i : Image) → decode s ≡ good i → x ≡ Ok (sizes_of (state_of i))
    unfolding read_answered read_answer decoded_answer decoded_refusal unless
    read_good i d = reads.answer ∙ rw (d, room_enough i b d roomy)

    read_bad : (e : Refusal) → decode s ≡ bad e → x ≡ Err e
    unfolding read_answered read_answer decoded_answer
    read_bad e d = reads.answer ∙ rw d

    -- a refusal is the image's
    pub read_refused : (l : List ℕ) (e : Refusal) → x ≡ Err e → refusal_line e ≡ output_read l (decode s)
    unfolding output_read
    read_refused l e a = go (decode s) refl
      where
        go : (d : Decoded) → decode s ≡ d → refusal_line e ≡ output_read l d
        go (bad y) d = let k = read_bad y d in let p : y ≡ e = cc in rw p
        go (good i) d = let k = read_good i d in let z : ◌≡◌ {A = ℕ} 0 1 = cc in absurd (omega arith)

    -- a run of what was read gives the output
    held_text : (l : List ℕ) (i : Image) → Bytes s → decode s ≡ good i
        → run_text (run_refusal (sizes_of (state_of i)) b' l) (run l (fields_in (sizes_of (state_of i)) b')) ≡ output_run (schedule_refusal l) l i
    unfolding run_refusal state_refusal state_refused or_else
    held_text l i bytes d =
        let f : fields_in (sizes_of (state_of i)) b' ≡ state_of i = ap (fields_in (sizes_of (state_of i))) reads.leaves ∙ read_in_place b s i d (read_fine i d) in
        let fit = room_enough i b d roomy in
        let same : room_of b' ≡ room_of b = ap room_of (reads.leaves ∙ held_by_read b s i d (read_fine i d)) ∙ room_kept (sizes_of (state_of i)) (state_of i) b (read_sized i) fit in
        rw (same, fit, f, reads_only_sound s bytes i d) (text_of_image l (schedule_refusal l) i)

    pub read_text : (l : List ℕ) (n : Sizes) → Bytes s → x ≡ Ok n → run_text (run_refusal n b' l) (run l (fields_in n b')) ≡ output_read l (decode s)
    unfolding output_read
    read_text l n bytes a = go (decode s) refl
      where
        go : (d : Decoded) → decode s ≡ d → run_text (run_refusal n b' l) (run l (fields_in n b')) ≡ output_read l d
        go (bad y) d = let k = read_bad y d in let z : ◌≡◌ {A = ℕ} 0 1 = cc in absurd (omega arith)
        go (good i) d =
            let k = read_good i d in
            let p : sizes_of (state_of i) ≡ n = cc in
            subst (λ (m : Sizes). run_text (run_refusal m b' l) (run l (fields_in m b')) ≡ output_run (schedule_refusal l) l i) p (held_text l i bytes d)
