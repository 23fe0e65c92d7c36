-- An accepted image has at most 7 rows and 64 processes, as its counts say.
use Prim.Native.Nat.{ℕ, zero, suc, ◌+◌, ◌≤◌}
use Rattle.std.proofs.Math.Path.{◌≡◌, ap}
use Rattle.std.specs.Prelude.{refl, Bool, true, false, cond, drop, ltb, leb}
use Rattle.std.proofs.Common.{sym, ◌∙◌, arith, leb-true}
use mathlib.Core.List.{List, [], ◌∷◌}
use Rattle.std.proofs.Math.ListN.{length}
use Rattle.window.specs.declared.Row.{Row}
use Rattle.step.specs.Soundness.{flag_sound}
use Rattle.refusal.specs.declared.Refusal.TheVariants.{InputEnds, CountOverLimit, ProcessField}
use Rattle.image.specs.declared.Process.{Process}
use Rattle.image.specs.Codec.{Codec, refused, accepted, field, bind, num, count, seq, via, dec_many, section, no_header, list_section}
use Rattle.image.specs.Image.{Image, Decoded, good, state_of, to_image, row_codec, row_task, tasks_codec, process_codec, queue_after, processes_codec, image_codec, decode, row_length, process_length}
use Rattle.image.proofs.Laws.Codec.{bind_elim}
use Rattle.image.proofs.Laws.Accepted.{after_good}
use Rattle.image_bytes.specs.Laws.Listed.{length_listed}
use Rattle.library.specs.declared.Sizes.{Sizes}
use Rattle.library.specs.Buffers.{sizes_of}
use Rattle.library.specs.Calls.{check_answer}
use Rattle.library.specs.Promises.{read_answered}
use Rattle.image_check.specs.Code.Places.{row_at, rows_at, process_at, processes_at, processes_place, process_count, image_at}
use Rattle.image_check.specs.Laws.Found.{Found, found}

-- ---- a section has as many values as its count says

count_most : (w most : ℕ) (b : List ℕ) (n : ℕ) (r : List ℕ) → (count w most).dec b ≡ accepted n r → n ≤ most
unfolding count num field
count_most w most b n r h = go (ltb (length b) w) (leb (field w b) most) refl h
  where
    go : (short fine : Bool) → leb (field w b) most ≡ fine
        → cond short (refused InputEnds) (cond fine (accepted (field w b) (drop w b)) (refused CountOverLimit)) ≡ accepted n r → n ≤ most
    go true fine e h = let z : ◌≡◌ {A = ℕ} 0 1 = cc in absurd (omega arith)
    go false false e h = let z : ◌≡◌ {A = ℕ} 0 1 = cc in absurd (omega arith)
    go false true e h = let q : field w b ≡ n = cc in omega (arith, q, leb-true (field w b) most e)

module _ {S A : Type 0} (c : S → Codec A) (next : S → A → S) where
  many_length : (s : S) (n : ℕ) (b : List ℕ) (xs : List A) (r : List ℕ) → dec_many c next s n b ≡ accepted xs r → length xs ≡ n
  unfolding dec_many
  many_length s zero b xs r h = let e : [] ≡ xs = cc in ap length (sym e)
  many_length s (suc n) b xs r h =
      bind_elim _ ((c s).dec b) _ h λ a t i j.
      bind_elim _ (dec_many c next (next s a) n t) _ j λ ys q m o.
      let e : (a ∷ ys) ≡ xs = cc in
      ap length (sym e) ∙ ap suc (many_length (next s a) n t ys q m)

  section_few : {H : Type 0} (head : Codec H) (w most : ℕ) (s : S) (b : List ℕ) (p : H × List A) (r : List ℕ)
      → (section head c next w most s).dec b ≡ accepted p r → length p.1 ≤ most
  unfolding section
  section_few {H} head w most s b p r h =
      bind_elim _ ((count w most).dec b) _ h λ n t i j.
      bind_elim _ (head.dec t) _ j λ x u k l.
      bind_elim _ (dec_many c next s n u) _ l λ ys q m o.
      let e : ◌≡◌ {A = H × List A} (x, ys) p = cc in
      omega (arith, count_most w most b n t i, many_length s n u ys q m, ap (λ (z : H × List A). length z.1) e)

-- ---- the rows and the processes

tasks_few : (b : List ℕ) (rows : List Row) (r : List ℕ) → tasks_codec.dec b ≡ accepted rows r → length rows ≤ 7
unfolding tasks_codec list_section via
tasks_few b rows r h =
    bind_elim _ ((section no_header row_codec row_task 1 7 0).dec b) _ h λ p t i j.
    let e : p.1 ≡ rows = cc in
    omega (arith, section_few row_codec row_task no_header 1 7 0 b p t i, ap length e)

processes_few : (rows : List Row) (b : List ℕ) (p : ℕ × List Process) (r : List ℕ) → (processes_codec rows).dec b ≡ accepted p r → length p.1 ≤ 64
unfolding processes_codec
processes_few rows b p r h = section_few (process_codec rows) queue_after (num 1 ProcessField flag_sound) 1 64 0 b p r h

image_few : (b : List ℕ) (i : Image) (r : List ℕ) → image_codec.dec b ≡ accepted i r → (length i.rows ≤ 7) × (length i.processes ≤ 64)
unfolding image_codec via seq
image_few b i r h =
    bind_elim _ (bind (tasks_codec.dec b) _) _ h λ f t g j.
    bind_elim _ (tasks_codec.dec b) _ g λ rows u k l.
    bind_elim _ (bind ((processes_codec rows).dec u) _) _ l λ x v m o.
    bind_elim _ ((processes_codec rows).dec u) _ m λ p w n q.
    bind_elim _ _ _ q λ y a d o'.
    let e : to_image (rows, (p, y)) ≡ i = cc in
    (omega (arith, tasks_few b rows u k, ap (λ (z : Image). length z.rows) e), omega (arith, processes_few rows u p w n, ap (λ (z : Image). length z.processes) e))

-- what a check found
pub found_few : (n : Sizes) (s : List ℕ) → Found n s → (n.rows ≤ 7) × (process_count n s ≤ 64)
unfolding decode image_at rows_at processes_at
found_few n s f =
    let w = image_few s (image_at n s) [] (after_good (image_codec.dec s) (image_at n s) f.accepts).0 in
    (omega (arith, w.0, length_listed row_length (λ p. row_at p s) n.rows 1), omega (arith, w.1, length_listed process_length (λ p. process_at p s) (process_count n s) (processes_place n + 2)))

-- what is found of an accepted image
pub found_image : (s : List ℕ) (i : Image) → decode s ≡ good i → Found (sizes_of (state_of i)) s
unfolding read_answered check_answer
found_image s i d = found s (sizes_of (state_of i)) (ap (λ (x : Decoded). read_answered (check_answer x)) d)

-- it has at most seven rows
pub few_rows : (s : List ℕ) (i : Image) → decode s ≡ good i → length i.rows ≤ 7
unfolding sizes_of state_of
few_rows s i d = (found_few (sizes_of (state_of i)) s (found_image s i d)).0
