-- Every result is a word, and every PSW that is made of fields has its zero bits zero.
use Rattle.std.specs.Prelude.{◌≡◌, ℕ, zero, suc, ◌+◌, ◌-◌, ◌*◌, ◌/◌, ◌%◌, ◌^◌, ◌<◌, ◌≤◌, min, max, Bool, true, false, cond, ◌&&◌, ◌==◌, ◌≢◌, nat_lt, refl}
use Rattle.std.proofs.Common.{sym, ap₂, subst, pow-suc, suc-mul, arith, pow_pos, pow-add, shr_lt, lt-ltb, ltb-true, eq-eqb}
use Rattle.std.proofs.Math.Nat.{mod-lt}
use Rattle.std.proofs.Math.Arith.{digits_lt}
use Rattle.std.proofs.Math.Pow.{split}
use Rattle.std.specs.Int.Bits.{differ}
use Rattle.std.specs.Int.Count.{count_leading_zeros}
use Rattle.std.proofs.lemmas.Nat.{leading_le}
use Rattle.std.proofs.lemmas.Bool.{eqb-false}
use Rattle.word.specs.declared.Outcome.{Outcome}
use Rattle.word.proofs.Laws.Bools.{and_left}
use Rattle.word.specs.Fields.{psw_of, psw_sound, next_of}
use Rattle.word.specs.Vectors.{other, digits_by, not_of, eor_of, eqv_of, nand_of, nor_of, or_of}
use Rattle.word.specs.Bits.{weight_of, bit_in, bitset_of, bitclr_of, encode1_of, encode0_of}
use Rattle.word.specs.Integers.{quality_of, add_of, sub_of, mul_of}

-- a number of four fields, each below its width
fields_lt : (a b c d : ℕ) → a < 2 ^ 13 → b < 2 ^ 11 → c < 2 ^ 8 → d < 2 ^ 20 → a * 2 ^ 43 + b * 2 ^ 32 + c * 2 ^ 24 + d < 2 ^ 56
fields_lt a b c d p q r s = omega arith

fields_zero : (a b c d : ℕ) → d < 2 ^ 20 → (a * 2 ^ 43 + b * 2 ^ 32 + c * 2 ^ 24 + d) / 2 ^ 20 % 2 ^ 4 ≡ 0
fields_zero a b c d s = omega arith

pub psw_sound_lem : (ci ri utm pc : ℕ) → psw_sound (psw_of ci ri utm pc) ≡ true
unfolding psw_sound psw_of
psw_sound_lem ci ri utm pc =
    let s : pc % 2 ^ 20 < 2 ^ 20 = mod-lt pc (pow_pos 20) in
    ap₂ ◌&&◌
    (lt-ltb _ _ (fields_lt _ _ _ _ (mod-lt ci (pow_pos 13)) (mod-lt ri (pow_pos 11)) (mod-lt utm (pow_pos 8)) s))
    (eq-eqb _ _ (fields_zero _ _ _ _ s))

pub next_sound : (psw : ℕ) → psw_sound (next_of psw) ≡ true
unfolding next_of
next_sound psw = psw_sound_lem _ _ _ _

-- a sound PSW is a word
pub psw_word : (psw : ℕ) → psw_sound psw ≡ true → psw < 2 ^ 64
unfolding psw_sound
psw_word psw e =
    let h : psw < 2 ^ 56 = ltb-true psw (2 ^ 56) (and_left (nat_lt psw (2 ^ 56)) (psw / 2 ^ 20 % 2 ^ 4 == 0) e) in omega arith

-- digit by digit
joined_lt : (f : ℕ → ℕ → ℕ) → ((a b : ℕ) → f (a % 2) (b % 2) ≤ 1) → (k a b : ℕ) → digits_by f k a b < 2 ^ k
unfolding digits_by
joined_lt f h zero a b = omega arith
joined_lt f h (suc k) a b = omega (arith, joined_lt f h k (a / 2) (b / 2), h a b, pow-suc 2 k)

differ_le : (x y : ℕ) → x ≤ 1 → y ≤ 1 → differ x y ≤ 1
differ_le zero y p q = q
differ_le (suc x) zero p q = p
differ_le (suc x) (suc y) p q = differ_le x y (omega arith) (omega arith)

differ_digit : (a b : ℕ) → differ (a % 2) (b % 2) ≤ 1
differ_digit a b = differ_le (a % 2) (b % 2) (omega arith) (omega arith)

module _ (a b : ℕ) where
  pub eor_word : eor_of a b < 2 ^ 64
  unfolding eor_of
  eor_word = joined_lt (λ x y. differ x y) differ_digit 64 a b

  pub eqv_word : eqv_of a b < 2 ^ 64
  unfolding eqv_of
  eqv_word = joined_lt (λ x y. other (differ x y)) (λ x y. omega arith) 64 a b

  pub nand_word : nand_of a b < 2 ^ 64
  unfolding nand_of
  nand_word = joined_lt (λ x y. other (min x y)) (λ x y. omega arith) 64 a b

  pub nor_word : nor_of a b < 2 ^ 64
  unfolding nor_of
  nor_word = joined_lt (λ x y. other (max x y)) (λ x y. omega arith) 64 a b

  pub or_word : or_of a b < 2 ^ 64
  unfolding or_of
  or_word = joined_lt (λ x y. max x y) (λ x y. omega arith) 64 a b

pub not_word : (a : ℕ) → not_of a < 2 ^ 64
unfolding not_of
not_word a = joined_lt (λ x y. other x) (λ x y. omega arith) 64 a 0

-- a digit that is zero may be set: the number keeps its length
set_lt : (j k a : ℕ) → (a / 2 ^ k % 2 ≢ 1) → a < 2 ^ (suc j + k) → a + 2 ^ k < 2 ^ (suc j + k)
set_lt j k a z h =
    let n : suc (a / 2 ^ k) < 2 ^ suc j = omega (arith, shr_lt (suc j) k h, pow-suc 2 j, z) in
    let m : suc (a / 2 ^ k) * 2 ^ k + a % 2 ^ k < 2 ^ suc j * 2 ^ k = digits_lt n (mod-lt a (pow_pos k)) in
    omega (arith, m, suc-mul (a / 2 ^ k) (2 ^ k), split a k, pow-add 2 (suc j) k)

pub bitset_word : (a n : ℕ) → a < 2 ^ 64 → bitset_of a n < 2 ^ 64
unfolding bitset_of
bitset_word a n h = go (bit_in a n) refl
  where
    length : suc (n % 64) + (63 - n % 64) ≡ 64
    length = omega (arith, mod-lt n (pow_pos 6))

    go : (b : Bool) → bit_in a n ≡ b → cond b a (a + weight_of n) < 2 ^ 64
    go true e = h
    go false e =
        subst (λ (k : ℕ). a + weight_of n < 2 ^ k) length
        (set_lt (n % 64) (63 - n % 64) a (eqb-false (a / weight_of n % 2) 1 e) (subst (λ (k : ℕ). a < 2 ^ k) (sym length) h))

pub bitclr_word : (a n : ℕ) → a < 2 ^ 64 → bitclr_of a n < 2 ^ 64
unfolding bitclr_of
bitclr_word a n h = go (bit_in a n)
  where
    go : (b : Bool) → cond b (a - weight_of n) a < 2 ^ 64
    go true = omega arith
    go false = h

pub encode1_word : (a : ℕ) → encode1_of a < 2 ^ 64
unfolding encode1_of
encode1_word a = go (a == 0)
  where
    go : (b : Bool) → cond b (2 ^ 63) (count_leading_zeros 64 a) < 2 ^ 64
    go true = omega arith
    go false = omega (arith, leading_le 64 a)

pub encode0_word : (a : ℕ) → encode0_of a < 2 ^ 64
unfolding encode0_of
encode0_word a = encode1_word (2 ^ 64 - 1 - a)

quality_le : (fits carry : Bool) → quality_of fits carry ≤ 6
unfolding quality_of
quality_le true true = omega arith
quality_le true false = omega arith
quality_le false carry = omega arith

-- a word and a quality
pub record Fits (r : Outcome) : Type 0 where
  pub word : r.word < 2 ^ 64
  pub quality : r.quality ≤ 6

module _ (a b : ℕ) where
  pub add_fits_lem : Fits (add_of a b)
  unfolding add_of
  add_fits_lem = record { word = mod-lt (a + b) (pow_pos 64); quality = quality_le _ _ }

  pub sub_fits_lem : Fits (sub_of a b)
  unfolding sub_of
  sub_fits_lem = record { word = mod-lt (a + 2 ^ 64 - b) (pow_pos 64); quality = quality_le _ _ }

  pub mul_fits_lem : Fits (mul_of a b)
  unfolding mul_of
  mul_fits_lem = record { word = mod-lt (a * b) (pow_pos 64); quality = quality_le _ _ }
