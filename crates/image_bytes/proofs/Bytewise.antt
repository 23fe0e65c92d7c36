-- Numbers: the loop that reads one, the part of the input that it is, and a word of eight bytes.
use Prim.Native.Nat.{ℕ, suc, ◌+◌, ◌-◌, ◌*◌, ◌^◌, ◌≤◌, ◌<◌}
use mathlib.Core.Path.{◌≡◌}
use mathlib.Core.List.{List, [], ◌∷◌}
use native.Mathlib.Nat.{pow-suc, pow-le-pow_right}
use native.Mathlib.Numerals.{add-one}
use native.Mathlib.Omega.{arith}
use lib.ListN.{length, get_or, take, drop, drop_of_length-le, length-drop}
use lib.Seq.{drop-cons, drop-drop}
use Rattle.std.specs.Prelude.{min}
use Rattle.std.proofs.lemmas.List.{take_min, drop_min, length-take}
use Rattle.std.proofs.Math.Nat.{min-le_left}
use Rattle.std.specs.Int.{w64, from_be_bytes}
use Rattle.image.specs.Codec.{number}
use Rattle.image_bytes.specs.Code.Reading.{field_at}
use Rattle.image_bytes.specs.Laws.Fields.{byte_at, field_split}

-- one byte more
pub number_step : (s : List ℕ) (i v : ℕ) → i < length s → number (v * 256 + get_or s i 0) (drop (i + 1) s) ≡ number v (drop i s)
unfolding number
number_step s i v h =
    let n : i + 1 ≡ suc i = omega arith in
    rw (drop-cons s i 0 h, n)

pub number_end : (s : List ℕ) (i v : ℕ) → length s ≤ i → number v (drop i s) ≡ v
unfolding number
number_end s i v h = rw (drop_of_length-le s h)

pub pow_step : (v x i : ℕ) → v < 256 ^ i → x < 256 → v * 256 + x < 256 ^ (i + 1)
pow_step v x i h k = rw (add-one, pow-suc) (omega arith)

-- a number of fewer bytes is one of more
pub below : (v i j : ℕ) → v < 256 ^ i → i ≤ j → v < 256 ^ j
below v i j h k = let m : 256 ^ i ≤ 256 ^ j = pow-le-pow_right {n = 256} (omega arith) {i = i} {j = j} k in omega arith

-- ---- a number in a part of the input

-- the part of w bytes from a place on, or what there is of it
pub part_is : (w at : ℕ) (s : List ℕ) {from there k : ℕ} → from ≡ min at (length s) → there ≡ min w (length s - from) → k ≡ there → take k (drop from s) ≡ take w (drop at s)
part_is w at s e f g =
    let n : length (drop (min at (length s)) s) ≡ length s - min at (length s) = length-drop (min at (length s)) s in
    rw (g, f, e, ← n, take_min, drop_min)

pub part_most : (k : ℕ) (b : List ℕ) → length (take k b) ≤ k
part_most k b = let m = min-le_left k (length b) in rw length-take m

-- ---- a word

digit : (p q n : ℕ) (s : List ℕ) → q ≡ p + 1 → p + suc n ≤ length s → field_at (suc n) p s ≡ get_or s p 0 * 256 ^ n + field_at n q s
digit p q n s e h =
    let l : length (drop p s) ≡ length s - p = length-drop p s in
    let k : suc n ≡ 1 + n = omega arith in
    rw (k, e, ← byte_at p s, ← drop-drop 1 p s) (field_split 1 n (drop p s) (omega arith))

-- as the library has it, of eight bytes
pub word_is : (at : ℕ) (s : List ℕ) → at + 8 ≤ length s
    → from_be_bytes w64 (get_or s at 0 ∷ get_or s (at + 1) 0 ∷ get_or s (at + 2) 0 ∷ get_or s (at + 3) 0 ∷ get_or s (at + 4) 0 ∷ get_or s (at + 5) 0 ∷ get_or s (at + 6) 0 ∷ get_or s (at + 7) 0 ∷ [])
    ≡ field_at 8 at s
word_is at s h =
    let d₀ = digit at (at + 1) 7 s (omega arith) (omega arith) in
    let d₁ = digit (at + 1) (at + 2) 6 s (omega arith) (omega arith) in
    let d₂ = digit (at + 2) (at + 3) 5 s (omega arith) (omega arith) in
    let d₃ = digit (at + 3) (at + 4) 4 s (omega arith) (omega arith) in
    let d₄ = digit (at + 4) (at + 5) 3 s (omega arith) (omega arith) in
    let d₅ = digit (at + 5) (at + 6) 2 s (omega arith) (omega arith) in
    let d₆ = digit (at + 6) (at + 7) 1 s (omega arith) (omega arith) in
    omega (arith, d₀, d₁, d₂, d₃, d₄, d₅, d₆, byte_at (at + 7) s)
