-- Laws that carry what the code computes to the definitions: digits, the weight of one digit, and parts.
use Rattle.std.proofs.Common.{◌≡◌, ℕ, zero, suc, ◌+◌, ◌-◌, ◌*◌, ◌/◌, ◌%◌, ◌^◌, ◌<◌, ◌≤◌, min, max, cond, eqb, sym, refl, ap, ◌∙◌, subst, ap₂, le_of_lt, mod-lt, mod-eq_of_lt, zero-lt-suc, one-mul, pow-suc, arith, pow-add}
use lib.Arith.{lt-one}
use lib.Pow.{pow-lt}
use lib.Bits.{differ, bit_and, bit_or, bit_xor, and_step, or_step, xor_step, or_add_and, and_high}
use lib.Count.{ones, ones_in, ones_step}
use Rattle.word.specs.Vectors.{digits_by, other, not_of, eor_of, eqv_of, nand_of, nor_of, or_of}
use Rattle.word.proofs.Laws.Signs.{digit_cases}
use Rattle.word.specs.declared.Part.{Part}
use Rattle.word.specs.Parts.{right_of, placed}
use Rattle.word.proofs.Laws.Parts.{right_fits, shifted_in, replaced, placed_word}

-- Digits.

half_lt : (k n : ℕ) → n < 2 ^ suc k → n / 2 < 2 ^ k
half_lt k n h = let e : 2 ^ suc k ≡ 2 ^ k * 2 = pow-suc 2 k in omega arith

-- op goes digit by digit, by f
record Digitwise (op f : ℕ → ℕ → ℕ) : Type 0 where
  zeros : op 0 0 ≡ 0
  step : (a b : ℕ) → op a b ≡ op (a / 2) (b / 2) * 2 + f (a % 2) (b % 2)
  digit : (a b : ℕ) → f (a % 2) (b % 2) ≤ 1

by_digits : {op f : ℕ → ℕ → ℕ} → Digitwise op f → (k a b : ℕ) → a < 2 ^ k → b < 2 ^ k → op a b ≡ digits_by f k a b
unfolding digits_by
by_digits {op} {f} d zero a b ha hb = ap₂ op (lt-one ha) (lt-one hb) ∙ d.zeros
by_digits {op} {f} d (suc k) a b ha hb =
    d.step a b ∙ ap (λ (x : ℕ). x * 2 + f (a % 2) (b % 2)) (by_digits d k (a / 2) (b / 2) (half_lt k a ha) (half_lt k b hb))

-- the digits of an operation and of its complement fill k ones
complement : {op f : ℕ → ℕ → ℕ} → Digitwise op f → (k a b : ℕ) → digits_by f k a b + digits_by (λ x y. other (f x y)) k a b + 1 ≡ 2 ^ k
unfolding digits_by
complement d zero a b = refl
complement d (suc k) a b =
    let i = complement d k (a / 2) (b / 2) in let e : 2 ^ suc k ≡ 2 ^ k * 2 = pow-suc 2 k in let l = d.digit a b in omega arith

not_digits : {op f : ℕ → ℕ → ℕ} → Digitwise op f
    → (k a b : ℕ) → a < 2 ^ k → b < 2 ^ k → 2 ^ k - 1 - op a b ≡ digits_by (λ x y. other (f x y)) k a b
not_digits d k a b ha hb = let s = complement d k a b in let e = by_digits d k a b ha hb in omega arith

first : Digitwise (λ x y. x) (λ x y. x)
first = record { zeros = refl; step = λ a b. omega arith; digit = λ a b. omega arith }

xors : Digitwise bit_xor differ
xors = record { zeros = refl; step = xor_step; digit = differ_digit }
  where
    differ_digit : (a b : ℕ) → differ (a % 2) (b % 2) ≤ 1
    differ_digit a b =
        digit_cases (a % 2) (mod-lt a (zero-lt-suc 1)) (λ (x : ℕ). differ x (b % 2) ≤ 1) (omega arith)
        (digit_cases (b % 2) (mod-lt b (zero-lt-suc 1)) (λ (y : ℕ). differ 1 y ≤ 1) (omega arith) (omega arith))

ands : Digitwise bit_and min
ands = record { zeros = refl; step = and_step; digit = λ a b. omega arith }

ors : Digitwise bit_or max
ors = record { zeros = refl; step = or_step; digit = λ a b. omega arith }

-- what the machine's operators make of two words
module _ (a b : ℕ) (ha : a < 2 ^ 64) (hb : b < 2 ^ 64) where
  pub eor_digits : bit_xor a b ≡ eor_of a b
  unfolding eor_of
  eor_digits = by_digits xors 64 a b ha hb

  pub eqv_digits : 2 ^ 64 - 1 - bit_xor a b ≡ eqv_of a b
  unfolding eqv_of
  eqv_digits = not_digits xors 64 a b ha hb

  pub nand_digits : 2 ^ 64 - 1 - bit_and a b ≡ nand_of a b
  unfolding nand_of
  nand_digits = not_digits ands 64 a b ha hb

  pub nor_digits : 2 ^ 64 - 1 - bit_or a b ≡ nor_of a b
  unfolding nor_of
  nor_digits = not_digits ors 64 a b ha hb

  pub or_digits : bit_or a b ≡ or_of a b
  unfolding or_of
  or_digits = by_digits ors 64 a b ha hb

pub digits_not : (a : ℕ) → a < 2 ^ 64 → 2 ^ 64 - 1 - a ≡ not_of a
unfolding not_of
digits_not a ha = not_digits first 64 a 0 ha (omega arith)

-- the ones of a word of k digits
pub ones_in_lem : (k n : ℕ) → n < 2 ^ k → ones n ≡ ones_in k n
unfolding ones ones_in
ones_in_lem zero n h = ap ones (lt-one h)
ones_in_lem (suc k) n h = ones_step n ∙ ap (λ (x : ℕ). n % 2 + x) (ones_in_lem k (n / 2) (half_lt k n h))

-- The weight of one digit.

weight_mask : (k : ℕ) → 2 ^ (1 + k) - 2 ^ k ≡ 2 ^ k
weight_mask k = let e : 2 ^ (1 + k) ≡ 2 * 2 ^ k = pow-add 2 1 k in omega arith

and_weight : (a k : ℕ) → bit_and a (2 ^ k) ≡ a / 2 ^ k % 2 * 2 ^ k
and_weight a k = ap (bit_and a) (sym (weight_mask k)) ∙ and_high a 1 k

by_digit : (a k : ℕ) (P : ℕ → Type 0) → (bit_and a (2 ^ k) ≡ 0 → P 0) → (bit_and a (2 ^ k) ≡ 2 ^ k → P 1) → P (a / 2 ^ k % 2)
by_digit a k P p q =
    digit_cases (a / 2 ^ k % 2) (mod-lt _ (zero-lt-suc 1)) (λ (d : ℕ). bit_and a (2 ^ k) ≡ d * 2 ^ k → P d)
    (λ e. p (omega arith)) (λ e. q (omega arith)) (and_weight a k)

pub or_weight : (a k : ℕ) → bit_or a (2 ^ k) ≡ cond (eqb (a / 2 ^ k % 2) 1) a (a + 2 ^ k)
or_weight a k =
    let s = or_add_and a (2 ^ k) in
    by_digit a k (λ (d : ℕ). bit_or a (2 ^ k) ≡ cond (eqb d 1) a (a + 2 ^ k)) (λ e. omega arith) (λ e. omega arith)

pub sub_weight : (a k : ℕ) → a - bit_and a (2 ^ k) ≡ cond (eqb (a / 2 ^ k % 2) 1) (a - 2 ^ k) a
sub_weight a k =
    by_digit a k (λ (d : ℕ). a - bit_and a (2 ^ k) ≡ cond (eqb d 1) (a - 2 ^ k) a) (λ e. omega arith) (λ e. omega arith)

-- 1 shifted by fewer than 64 places
pub shifted_one : (k : ℕ) → k < 64 → (1 * 2 ^ k) % 2 ^ 64 ≡ 2 ^ k
shifted_one k h = ap (λ (x : ℕ). x % 2 ^ 64) (one-mul (2 ^ k)) ∙ mod-eq_of_lt (pow-lt h)

-- Parts: 2 to the width, as code shifts it.

module _ (w : ℕ) (narrow : w < 64) where
  pub by_size : (x : ℕ) → x % ((1 * 2 ^ w) % 2 ^ 64) ≡ x % 2 ^ w
  by_size x = ap (λ (n : ℕ). x % n) (shifted_one w narrow)

-- a part with k bits to its right: its bits taken out of the word x, the register's put in
module _ (part : Part) (narrow : part.width < 64) (k : ℕ) (right : k ≡ right_of part) where
  shifted_back : (v : ℕ) → (v % ((1 * 2 ^ part.width) % 2 ^ 64) * 2 ^ k) % 2 ^ 64 ≡ v % 2 ^ part.width * 2 ^ k
  shifted_back v =
      ap (λ (n : ℕ). n * 2 ^ k % 2 ^ 64) (by_size part.width narrow v)
      ∙ shifted_in part.width k v (right_fits part.width part.place k right (le_of_lt narrow))

  module _ (register x : ℕ) where
    pub put_placed : x - (x / 2 ^ k % ((1 * 2 ^ part.width) % 2 ^ 64) * 2 ^ k) % 2 ^ 64 + (register % ((1 * 2 ^ part.width) % 2 ^ 64) * 2 ^ k) % 2 ^ 64
        ≡ placed part register x
    unfolding placed
    put_placed =
        ap₂ (λ (a b : ℕ). x - a + b) (shifted_back (x / 2 ^ k)) (shifted_back register)
        ∙ replaced part.width k register x
        ∙ ap (λ (n : ℕ). x / 2 ^ (n + part.width) * 2 ^ (n + part.width) + register % 2 ^ part.width * 2 ^ n + x % 2 ^ n) right

    pub put_lt : register < 2 ^ 64 → x < 2 ^ 64
        → x - (x / 2 ^ k % ((1 * 2 ^ part.width) % 2 ^ 64) * 2 ^ k) % 2 ^ 64 + (register % ((1 * 2 ^ part.width) % 2 ^ 64) * 2 ^ k) % 2 ^ 64 < 2 ^ 64
    put_lt h l = subst (λ (n : ℕ). n < 2 ^ 64) (sym put_placed) (placed_word part register x h l)
