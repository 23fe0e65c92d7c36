-- Numbers at a place of the input.
use Rattle.std.specs.Prelude.{ℕ, suc, ◌+◌, ◌-◌, ◌*◌, ◌^◌, ◌≤◌, ◌<◌, ◌≡◌, refl, Bool, true, false, cond, List, [], ◌∷◌, ◌++◌, length, get_or, take, drop, leb}
use Rattle.std.proofs.Common.{sym, ap, ◌∙◌, add-zero, add-mul, mul_assoc, arith, length-drop, drop_of_length-le, take-add, take_all, length-take-le, get_or-drop}
use Rattle.std.proofs.Math.Nat.{pow-succ', pow-zero}
use Rattle.std.proofs.Math.Seq.{take-nil}
use Rattle.image.specs.Codec.{Bytes, number, field}
use Rattle.image_bytes.specs.Code.Reading.{field_at, number_at}

-- a number of one byte is that byte, and 0 past the end
field_one : (b : List ℕ) → field 1 b ≡ get_or b 0 0
unfolding field number
field_one [] = refl
field_one (x ∷ b) = omega arith

pub byte_at : (p : ℕ) (s : List ℕ) → field_at 1 p s ≡ get_or s p 0
byte_at p s = field_one (drop p s) ∙ get_or-drop p s 0 0 ∙ ap (λ (k : ℕ). get_or s k 0) (add-zero p)

-- past the end, of the bytes that are there
pub field_short : (w p : ℕ) (s : List ℕ) → length s - p ≤ w → field_at (length s - p) p s ≡ field_at w p s
unfolding field
field_short w p s h =
    let l : length (drop p s) ≡ length s - p = length-drop p s in
    ap (number 0) (take_all (length s - p) (drop p s) (omega arith) ∙ sym (take_all w (drop p s) (omega arith)))

-- past the end there is none
pub number_past : (w p : ℕ) (s : List ℕ) → length s ≤ p → number_at w p s ≡ 0
unfolding number_at field number
number_past w p s h = rw (drop_of_length-le s h, take-nil w) (go (leb w 8))
  where
    go : (b : Bool) → ◌≡◌ {A = ℕ} (cond b 0 0) 0
    go true = refl
    go false = refl

-- a list of bytes, byte by byte
pub all_bytes : (s : List ℕ) → ((i : ℕ) → get_or s i 0 < 256) → Bytes s
unfolding Bytes
all_bytes [] h = tt
all_bytes (x ∷ s) h = (h 0, all_bytes s (λ i. h (suc i)))

-- ---- a number read in two parts

number_append : (acc : ℕ) (xs ys : List ℕ) → number acc (xs ++ ys) ≡ number (number acc xs) ys
unfolding number
number_append acc [] ys = refl
number_append acc (x ∷ xs) ys = number_append (acc * 256 + x) xs ys

number_linear : (acc : ℕ) (xs : List ℕ) → number acc xs ≡ acc * 256 ^ length xs + number 0 xs
unfolding number
number_linear acc [] = let e = pow-zero 256 in omega arith
number_linear acc (x ∷ xs) =
    let p = 256 ^ length xs in
    let i : number acc (x ∷ xs) ≡ (acc * 256 + x) * p + number 0 xs = number_linear (acc * 256 + x) xs in
    let z : 0 * 256 + x ≡ x = omega arith in
    let j : number 0 (x ∷ xs) ≡ x * p + number 0 xs = number_linear (0 * 256 + x) xs ∙ ap (λ (k : ℕ). k * p + number 0 xs) z in
    let d : (acc * 256 + x) * p ≡ acc * (256 * p) + x * p = rw (add-mul, mul_assoc) in
    let e : acc * 256 ^ suc (length xs) ≡ acc * (256 * p) = ap (λ (k : ℕ). acc * k) (pow-succ' 256 (length xs)) in
    omega (arith, i, j, d, e)

pub field_split : (v w : ℕ) (b : List ℕ) → v + w ≤ length b → field (v + w) b ≡ field v b * 256 ^ w + field w (drop v b)
unfolding field
field_split v w b h =
    let l : length (take w (drop v b)) ≡ w = length-take-le w (drop v b) (rw length-drop (omega arith)) in
    rw (take-add v w b, number_append) (number_linear (number 0 (take v b)) (take w (drop v b)) ∙ rw l)
