-- Bytes that are put one part after another: what is still to be put, and the turns.
use Prim.Native.Nat.{ℕ, ◌+◌, ◌≤◌}
use mathlib.Core.Path.{◌≡◌, refl, sym, ap, ◌∙◌}
use mathlib.Core.List.{List, [], ◌++◌}
use native.Mathlib.Omega.{arith}
use lib.ListN.{length, length-append}
use Rattle.image.specs.Codec.{digits}
use Rattle.image.proofs.Laws.Numbers.{length_digits}
use Rattle.image_bytes.specs.Code.Writing.{laid, put_at}
use Rattle.image_bytes.specs.Laws.Laid.{put_fits, laid_nil, length_laid, laid_append}

-- what is left is xs, and then left'
pub record Splits (left xs left' : List ℕ) : Type 0 where
  pub is : left ≡ xs ++ left'

module _ (at : ℕ) (all l₀ : List ℕ) where
  -- of all the bytes from `at` on, `left` are still to be put at p; the list was l₀ and is l
  pub record Going (l : List ℕ) (p : ℕ) (left : List ℕ) : Type 0 where
    pub fits : at + length all ≤ length l₀
    pub place : p + length left ≡ at + length all
    pub same : length l ≡ length l₀
    pub rest : laid p left l ≡ laid at all l₀

  pub start : at + length all ≤ length l₀ → Going l₀ at all
  start h = record { fits = h; place = refl; same = refl; rest = refl }

  module _ {l : List ℕ} {p : ℕ} {left : List ℕ} (z : Going l p left) where
    -- there is room for the next part
    pub room : {xs left' : List ℕ} → Splits left xs left' → p + length xs ≤ length l
    room {xs} {left'} d =
        let n : length left ≡ length xs + length left' = ap length d.is ∙ length-append xs left' in
        omega (arith, z.fits, z.place, z.same)

    pub room_all : p + length left ≤ length l
    room_all = omega (arith, z.fits, z.place, z.same)

    -- the next part is put
    pub goes : {l₁ xs left' : List ℕ} {q : ℕ} → Splits left xs left' → q ≡ p + length xs → l₁ ≡ put_at p xs l → Going l₁ q left'
    goes {l₁} {xs} {left'} d e i =
        let n : length left ≡ length xs + length left' = ap length d.is ∙ length-append xs left' in
        let f : p + length xs ≤ length l = room d in
        let j : l₁ ≡ laid p xs l = i ∙ sym (put_fits p xs l f) in
        record {
          fits = z.fits;
          place = omega (arith, z.place);
          same = ap length j ∙ length_laid p xs l f ∙ z.same;
          rest = rw (j, e) (laid_append p xs left' l f) ∙ ap (λ (ys : List ℕ). laid p ys l) (sym d.is) ∙ z.rest;
        }

    pub spelled : {left' : List ℕ} → left ≡ left' → Going l p left'
    spelled d = rw d at z

    -- nothing is left
    pub ends : left ≡ [] → l ≡ put_at at all l₀
    ends d = sym (laid_nil p l) ∙ ap (λ (ys : List ℕ). laid p ys l) (sym d) ∙ z.rest ∙ put_fits at all l₀ z.fits

    pub place_ends : left ≡ [] → p ≡ at + length all
    place_ends d = let n = ap length d in omega (arith, z.place)

    -- the last part is put
    pub last : {l₁ : List ℕ} → l₁ ≡ put_at p left l → l₁ ≡ put_at at all l₀
    last {l₁} i =
        i ∙ sym (put_fits p left l room_all) ∙ z.rest ∙ put_fits at all l₀ z.fits

  -- numbers one after another: the first, and the next at k bytes from the start
  first : (w v : ℕ) (left : List ℕ) {l₁ : List ℕ} → at + length all ≤ length l₀ → all ≡ digits w v ++ left → l₁ ≡ put_at at (digits w v) l₀ → Going l₁ (at + w) left
  first w v left h d i = goes (start h) (record { is = d }) (ap (λ (n : ℕ). at + n) (sym (length_digits w v))) i

  next : (k w v : ℕ) (left : List ℕ) {l l₁ : List ℕ} → Going l (at + k) (digits w v ++ left) → l₁ ≡ put_at (at + k) (digits w v) l → Going l₁ (at + (k + w)) left
  next k w v left z i = goes z (record { is = refl }) (rw length_digits (omega arith)) i

-- two, three and four numbers
module _ (at : ℕ) (l₀ : List ℕ) (v w a b : ℕ) where
  pub two : {l₁ l₂ : List ℕ} → at + (v + w) ≤ length l₀ → l₁ ≡ put_at at (digits v a) l₀ → l₂ ≡ put_at (at + v) (digits w b) l₁ → l₂ ≡ put_at at (digits v a ++ digits w b) l₀
  two h e₁ e₂ =
      let all = digits v a ++ digits w b in
      let f : at + length all ≤ length l₀ = simp (length-append, length_digits) h in
      last at all l₀ (first at all l₀ v a (digits w b) f refl e₁) e₂

  module _ (x c : ℕ) where
    pub three : {l₁ l₂ l₃ : List ℕ} → at + (v + (w + x)) ≤ length l₀ → l₁ ≡ put_at at (digits v a) l₀ → l₂ ≡ put_at (at + v) (digits w b) l₁
        → l₃ ≡ put_at (at + (v + w)) (digits x c) l₂ → l₃ ≡ put_at at (digits v a ++ (digits w b ++ digits x c)) l₀
    three h e₁ e₂ e₃ =
        let all = digits v a ++ (digits w b ++ digits x c) in
        let f : at + length all ≤ length l₀ = simp (length-append, length_digits) h in
        last at all l₀ (next at all l₀ v w b (digits x c) (first at all l₀ v a (digits w b ++ digits x c) f refl e₁) e₂) e₃

    pub four : (y d : ℕ) {l₁ l₂ l₃ l₄ : List ℕ} → at + (v + (w + (x + y))) ≤ length l₀ → l₁ ≡ put_at at (digits v a) l₀ → l₂ ≡ put_at (at + v) (digits w b) l₁
        → l₃ ≡ put_at (at + (v + w)) (digits x c) l₂ → l₄ ≡ put_at (at + (v + w + x)) (digits y d) l₃
        → l₄ ≡ put_at at (digits v a ++ (digits w b ++ (digits x c ++ digits y d))) l₀
    four y d h e₁ e₂ e₃ e₄ =
        let all = digits v a ++ (digits w b ++ (digits x c ++ digits y d)) in
        let f : at + length all ≤ length l₀ = simp (length-append, length_digits) h in
        let z = first at all l₀ v a (digits w b ++ (digits x c ++ digits y d)) f refl e₁ in
        last at all l₀ (next at all l₀ (v + w) x c (digits y d) (next at all l₀ v w b (digits x c ++ digits y d) z e₂) e₃) e₄
