-- Values at every so many bytes.
use Prim.Native.Nat.{ℕ, zero, suc, ◌+◌, ◌-◌, ◌*◌, ◌≤◌, ◌<◌}
use Rattle.std.specs.Prelude.{◌≡◌, length, drop}
use Rattle.std.proofs.Math.Path.{refl, ap, ap₂}
use Rattle.std.proofs.Common.{◌∙◌, zero-add, drop-drop}
use mathlib.Core.List.{List, [], ◌∷◌, ◌++◌, map}
use Rattle.std.proofs.Math.Nat.{add-zero, suc-add, mul-zero, mul-suc}
use native.Mathlib.Omega.{arith}
use Rattle.image_bytes.specs.Code.Reading.{listed}

module _ {A : Type 0} (stride : ℕ) where
  pub length_listed : (f : ℕ → A) (n at : ℕ) → length (listed stride f n at) ≡ n
  unfolding listed
  length_listed f zero at = refl
  length_listed f (suc n) at = ap suc (length_listed f n (at + stride))

  -- the first of them, and none
  pub listed_cons : (f : ℕ → A) (n at : ℕ) → 0 < n → listed stride f n at ≡ f at ∷ listed stride f (n - 1) (at + stride)
  unfolding listed
  listed_cons f n at h = let e : n ≡ suc (n - 1) = omega arith in ap (λ (m : ℕ). listed stride f m at) e

  pub listed_none : (f : ℕ → A) (n at : ℕ) → n ≤ 0 → listed stride f n at ≡ []
  unfolding listed
  listed_none f n at h = let e : n ≡ 0 = omega arith in rw e

  -- the first k of them, and m more
  pub listed_add : (f : ℕ → A) (k m at : ℕ) → listed stride f (k + m) at ≡ listed stride f k at ++ listed stride f m (at + stride * k)
  unfolding listed
  listed_add f zero m at = rw (zero-add m, mul-zero stride, add-zero at)
  listed_add f (suc k) m at =
      let q : at + stride + stride * k ≡ at + stride * suc k = rw mul-suc (omega arith) in
      rw suc-add (ap (λ (l : List A). f at ∷ l) (listed_add f k m (at + stride) ∙ ap (λ (b : ℕ). listed stride f k (at + stride) ++ listed stride f m b) q))

  pub map_listed : {B : Type 0} (g : A → B) (f : ℕ → A) (n at : ℕ) → map g (listed stride f n at) ≡ listed stride (λ p. g (f p)) n at
  unfolding listed
  map_listed g f zero at = refl
  map_listed g f (suc n) at = ap (λ (l : List _). g (f at) ∷ l) (map_listed g f n (at + stride))

  -- the same values, counted from another place
  pub shifted : (f g : ℕ → A) (k : ℕ) → ((p : ℕ) → f p ≡ g (k + p)) → (n at : ℕ) → listed stride f n at ≡ listed stride g n (k + at)
  unfolding listed
  shifted f g k e zero at = refl
  shifted f g k e (suc n) at =
      let q : k + (at + stride) ≡ k + at + stride = omega arith in
      ap₂ ◌∷◌ (e at) (shifted f g k e n (at + stride) ∙ ap (listed stride g n) q)

-- values of the bytes from a place on are values of the whole
pub listed_at : {A : Type 0} (stride : ℕ) (v : List ℕ → A) (g : ℕ → A) (s : List ℕ) → ((q : ℕ) → v (drop q s) ≡ g q) → (k n at : ℕ)
    → listed stride (λ p. v (drop p (drop k s))) n at ≡ listed stride g n (k + at)
listed_at stride v g s e k n at = shifted stride (λ p. v (drop p (drop k s))) g k (λ p. ap v (drop-drop p k s) ∙ e (k + p)) n at
