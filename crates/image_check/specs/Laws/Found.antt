-- Where a check finds an image sound, what the image is, and that all its bytes are there: what a reader needs.
use Rattle.std.specs.Prelude.{ℕ, ◌-◌, ◌≡◌, refl, List, [], length, Ok}
use Rattle.std.proofs.Common.{sym, ap, ◌∙◌, arith, length-drop}
use Rattle.image.specs.Image.{Image, Decoded, bad, good, image_codec, state_of, decode}
use Rattle.image.proofs.Laws.Accepted.{after_good}
use Rattle.library.specs.declared.Sizes.{Sizes}
use Rattle.library.specs.Buffers.{sizes_of}
use Rattle.library.specs.Calls.{check_answer}
use Rattle.library.specs.Promises.{read_answered}
use Rattle.image_check.specs.Code.Places.{end_place, sizes_in, image_at}
use Rattle.image_check.specs.Laws.Sections.{image_placed, sizes_image}

-- an accepted image is read at its places, and it ends with the input
pub decoded : (s : List ℕ) (i : Image) → decode s ≡ good i → (i ≡ image_at (sizes_in s) s) × (end_place (sizes_in s) s ≡ length s)
unfolding decode
decoded s i h =
    let whole = (after_good (image_codec.dec s) i h).0 in
    let p = image_placed s in
    let none : length s - end_place (sizes_in s) s ≡ 0 = sym (length-drop (end_place (sizes_in s) s) s) ∙ ap length (sym (p.rest i [] whole)) in
    let there = p.there i [] whole (omega arith) in
    (p.is i [] whole, omega (arith, none, there))

-- where a check finds these sizes
pub record Found (n : Sizes) (s : List ℕ) : Type 0 where
  pub sizes : n ≡ sizes_in s
  pub accepts : decode s ≡ good (image_at n s)
  pub ends : end_place n s ≡ length s

pub found : (s : List ℕ) (n : Sizes) → read_answered (check_answer (decode s)) ≡ Ok n → Found n s
unfolding read_answered check_answer
found s n h = go (decode s) refl h
  where
    go : (d : Decoded) → decode s ≡ d → read_answered (check_answer d) ≡ Ok n → Found n s
    go (bad e) q h = let m : ◌≡◌ {A = ℕ} 0 1 = cc in absurd (omega arith)
    go (good i) q h =
        let e : sizes_of (state_of i) ≡ n = cc in
        let d = decoded s i q in
        let c : n ≡ sizes_in s = sym e ∙ ap (λ (j : Image). sizes_of (state_of j)) d.0 ∙ sizes_image (sizes_in s) s in
        record { sizes = c; accepts = q ∙ ap good (d.0 ∙ ap (λ (m : Sizes). image_at m s) (sym c)); ends = ap (λ (m : Sizes). end_place m s) c ∙ d.1 }
