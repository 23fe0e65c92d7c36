-- What the tests after the last section find, and what the whole check finds.
use Rattle.std.proofs.Common.{Result as Answered}
use Prim.Native.Nat.{ℕ, ◌+◌, ◌-◌, ◌≤◌, ◌<◌}
use mathlib.Core.Path.{◌≡◌, refl, sym, ap, ap₂, ◌∙◌}
use mathlib.Core.Bool.{Bool, true, false, cond, not, ◌&&◌}
use mathlib.Core.List.{List, []}
use native.Mathlib.Omega.{arith}
use lib.ListN.{length, drop, drop_of_length-le}
use lib.Seq.{drop-cons}
use Rattle.refusal.specs.declared.Refusal.{Refusal}
use Rattle.refusal.specs.declared.Refusal.TheVariants.{BytesLeftOver, WindowPastMemory, ProcessesClash}
use Rattle.step.specs.Soundness.{windows_sound, distinct, total_sound}
use Rattle.image.specs.Codec.{Result, refused, accepted}
use Rattle.image.specs.Image.{Image, Decoded, bad, good, image_codec, after_sections, decode, tasks_length}
use Rattle.std.specs.Prelude.{Ok, Err}
use Rattle.image_bytes.specs.Code.Reading.{field_at, cells_at, words_at}
use Rattle.image_bytes.specs.Code.Scanning.{scanned, scan}
use Rattle.image_bytes.specs.Laws.Listed.{length_listed, map_listed}
use Rattle.image_bytes.specs.Laws.Scans.{drop_back}
use Rattle.library.specs.declared.Sizes.{Sizes}
use Rattle.library.specs.Calls.{check_answer}
use Rattle.library.specs.Promises.{read_answered}
use Rattle.image_check.specs.Code.Places.{rows_at, process_at, processes_at, pts_at, processes_place, end_place, sizes_in, image_at}
use Rattle.image_check.specs.Laws.Sections.{image_placed, sizes_image}

-- what the check answers of what decoding gives
abbrev pub answer : Decoded → Answered Sizes Refusal
answer d = read_answered (check_answer d)

-- ---- after the last section

-- the tests, by the sizes and the bytes
module _ (n : Sizes) (s : List ℕ) where
  abbrev windows : Bool
  windows = windows_sound n.registers n.program n.data_words (rows_at n.rows s)

  abbrev processes : Bool
  processes = distinct (pts_at (field_at 1 (tasks_length n.rows) s) (tasks_length n.rows + 2) s) && total_sound (field_at 1 (tasks_length n.rows) s) (field_at 1 (tasks_length n.rows + 1) s)

  ended : after_sections (accepted (image_at n s) []) ≡ cond (not windows) (bad WindowPastMemory) (cond (not processes) (bad ProcessesClash) (good (image_at n s)))
  unfolding after_sections image_at cells_at words_at processes_at process_at pts_at processes_place
  ended = simp (length_listed, map_listed)

  module _ (end : ℕ) where
    abbrev found : Answered Sizes Refusal
    found = answer (after_sections (accepted (image_at n s) (drop end s)))

    pub left_over_lem : end < length s → Err BytesLeftOver ≡ found
    unfolding after_sections read_answered check_answer
    left_over_lem h = rw (drop-cons s end 0 h)

    module _ (whole : length s ≤ end) where
      at_end : found ≡ answer (cond (not windows) (bad WindowPastMemory) (cond (not processes) (bad ProcessesClash) (good (image_at n s))))
      at_end = ap (λ (r : List ℕ). answer (after_sections (accepted (image_at n s) r))) (drop_of_length-le s whole) ∙ ap answer ended

      pub window_past : windows ≡ false → Err WindowPastMemory ≡ found
      unfolding read_answered check_answer
      window_past w = sym (at_end ∙ rw w)

      pub processes_clash : windows ≡ true → processes ≡ false → Err ProcessesClash ≡ found
      unfolding read_answered check_answer
      processes_clash w p = sym (at_end ∙ rw (w, p))

      pub all_sound : windows ≡ true → processes ≡ true → Ok n ≡ found
      unfolding read_answered check_answer
      all_sound w p = sym (at_end ∙ rw (w, p) (ap Ok (sizes_image n s)))

-- ---- the whole

module _ (s : List ℕ) where
  refused_result : {e : Refusal} (m : Result Image) → scanned (length s) m ≡ Err e → Err e ≡ answer (after_sections m)
  unfolding scanned read_answered check_answer after_sections
  refused_result (refused e) h = cc
  refused_result (accepted i r) h = let z : ◌≡◌ {A = ℕ} 0 1 = cc in absurd (omega arith)

  pub refused_image : {e : Refusal} → scan image_codec.dec s (Ok 0) ≡ Err e → Err e ≡ answer (decode s)
  unfolding scan decode
  refused_image h = refused_result (image_codec.dec s) h

  ended_result : {end : ℕ} (m : Result Image) → image_codec.dec s ≡ m → scanned (length s) m ≡ Ok end → m ≡ accepted (image_at (sizes_in s) s) (drop end s)
  unfolding scanned
  ended_result (refused e) q h = let z : ◌≡◌ {A = ℕ} 0 1 = cc in absurd (omega arith)
  ended_result {end} (accepted i r) q h =
      let e : length s - length r ≡ end = cc in
      let f : drop (length s - length r) s ≡ r = rw ((image_placed s).rest i r q) (drop_back (end_place (sizes_in s) s) s) in
      ap₂ accepted ((image_placed s).is i r q) (sym f ∙ ap (λ (k : ℕ). drop k s) e)

  pub ended_image : {end : ℕ} → scan image_codec.dec s (Ok 0) ≡ Ok end → answer (after_sections (accepted (image_at (sizes_in s) s) (drop end s))) ≡ answer (decode s)
  unfolding scan decode
  ended_image h = ap (λ (m : Result Image). answer (after_sections m)) (sym (ended_result (image_codec.dec s) refl h))
