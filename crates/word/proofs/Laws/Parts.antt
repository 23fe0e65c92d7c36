-- The bits of a word that are replaced, and all others, with k bits to the right of them.
use Rattle.std.specs.Prelude.{◌≡◌, ℕ, suc, ◌+◌, ◌-◌, ◌*◌, ◌/◌, ◌%◌, ◌^◌, ◌<◌, ◌≤◌, Bool, true, false, ◌≢◌, nat_le}
use Rattle.std.proofs.Math.Path.{refl}
use Rattle.std.proofs.Common.{sym, ap, ◌∙◌, subst, mod-lt, div-one, div-lt_iff_lt-mul, mod-eq_of_lt, mul_assoc, mul_comm, add-mul, lt_of_le_of_lt, lt_of_lt_of_le, le_trans, le_of_lt, arith, pow_pos, pow_mono, pow-add, shr-shr, shr_lt, shl_exact}
use Rattle.std.proofs.Math.Nat.{mod-le, mod-one, div-eq_of_lt, mul-suc, mul-le-mul_left, one-mul}
use Rattle.std.proofs.lemmas.Nat.{shr_le}
use Rattle.std.proofs.Math.Pow.{split, high, low, field, mod-mod-pow}
use borrow.Author.Tests.{leb-true, leb-false}
use Rattle.word.specs.declared.Part.{Part}
use Rattle.word.specs.Parts.{part_at, right_of, extracted, placed, Fills}

-- the w bits with k bits to their right, right-justified
abbrev bits_at : (w k x : ℕ) → ℕ
bits_at w k x = x / 2 ^ k % 2 ^ w

-- the word with the low w bits of v for those bits
abbrev with_bits : (w k v x : ℕ) → ℕ
with_bits w k v x = x / 2 ^ (k + w) * 2 ^ (k + w) + v % 2 ^ w * 2 ^ k + x % 2 ^ k

-- three numbers side by side, joined from the left
joined : (w k a m r : ℕ) → a * 2 ^ (k + w) + m * 2 ^ k + r ≡ (a * 2 ^ w + m) * 2 ^ k + r
joined w k a m r =
    ap (λ (n : ℕ). n + m * 2 ^ k + r) (ap (λ (n : ℕ). a * n) (pow-add 2 k w ∙ mul_comm (2 ^ k) (2 ^ w)) ∙ sym (mul_assoc a (2 ^ w) (2 ^ k)))
    ∙ ap (λ (n : ℕ). n + r) (sym (add-mul (a * 2 ^ w) m (2 ^ k)))

-- a word is the bits to the left, the w bits and the bits to the right
apart : (w k x : ℕ) → x / 2 ^ (k + w) * 2 ^ (k + w) + bits_at w k x * 2 ^ k + x % 2 ^ k ≡ x
apart w k x =
    joined w k (x / 2 ^ (k + w)) (bits_at w k x) (x % 2 ^ k)
    ∙ ap (λ (n : ℕ). (n * 2 ^ w + bits_at w k x) * 2 ^ k + x % 2 ^ k) (sym (shr-shr x k w))
    ∙ ap (λ (n : ℕ). n * 2 ^ k + x % 2 ^ k) (split (x / 2 ^ k) w)
    ∙ split x k

module _ (w k v x : ℕ) where
  above : with_bits w k v x / 2 ^ k ≡ x / 2 ^ (k + w) * 2 ^ w + v % 2 ^ w
  above =
      ap (λ (n : ℕ). n / 2 ^ k) (joined w k (x / 2 ^ (k + w)) (v % 2 ^ w) (x % 2 ^ k))
      ∙ high (x / 2 ^ (k + w) * 2 ^ w + v % 2 ^ w) k (mod-lt x (pow_pos k))

  -- the bits that were put are those that are taken
  taken_again : bits_at w k (with_bits w k v x) ≡ v % 2 ^ w
  taken_again = ap (λ (n : ℕ). n % 2 ^ w) above ∙ low (x / 2 ^ (k + w)) w (mod-lt v (pow_pos w))

  -- the bits to the right and the bits to the left stay
  right_stays : with_bits w k v x % 2 ^ k ≡ x % 2 ^ k
  right_stays =
      ap (λ (n : ℕ). n % 2 ^ k) (joined w k (x / 2 ^ (k + w)) (v % 2 ^ w) (x % 2 ^ k))
      ∙ low (x / 2 ^ (k + w) * 2 ^ w + v % 2 ^ w) k (mod-lt x (pow_pos k))

  left_stays : with_bits w k v x / 2 ^ (k + w) ≡ x / 2 ^ (k + w)
  left_stays = sym (shr-shr (with_bits w k v x) k w) ∙ ap (λ (n : ℕ). n / 2 ^ w) above ∙ high (x / 2 ^ (k + w)) w (mod-lt v (pow_pos w))

  -- the word stays one of m bits
  bits_stay_word : (m : ℕ) → k + w ≤ m → x < 2 ^ m → with_bits w k v x < 2 ^ m
  bits_stay_word m h l =
      let e : m - (k + w) + (k + w) ≡ m = omega arith in
      subst (λ (n : ℕ). with_bits w k v x < 2 ^ n) e
      (subst (λ (n : ℕ). with_bits w k v x < n) (sym (pow-add 2 (m - (k + w)) (k + w)))
      ((div-lt_iff_lt-mul (pow_pos (k + w))).0
      (subst (λ (n : ℕ). n < 2 ^ (m - (k + w))) (sym left_stays) (shr_lt (m - (k + w)) (k + w) (subst (λ (n : ℕ). x < 2 ^ n) (sym e) l)))))

-- bits all of which stand among the k to the right
from_right : (u j k x : ℕ) → j + u ≤ k → bits_at u j x ≡ x % 2 ^ k % 2 ^ (u + j) / 2 ^ j
from_right u j k x h =
    let e : k - (u + j) + (u + j) ≡ k = omega arith in
    sym (field x u j) ∙ ap (λ (n : ℕ). n / 2 ^ j) (sym (mod-mod-pow x (k - (u + j)) (u + j)) ∙ ap (λ (n : ℕ). x % 2 ^ n % 2 ^ (u + j)) e)

-- bits all of which stand to the left of m
from_left : (u j m x : ℕ) → m ≤ j → bits_at u j x ≡ x / 2 ^ m / 2 ^ (j - m) % 2 ^ u
from_left u j m x h =
    let e : m + (j - m) ≡ j = omega arith in
    sym (ap (λ (n : ℕ). n % 2 ^ u) (shr-shr x m (j - m) ∙ ap (λ (n : ℕ). x / 2 ^ n) e))

module _ (w k v x u j : ℕ) where
  right_part_stays : j + u ≤ k → bits_at u j (with_bits w k v x) ≡ bits_at u j x
  right_part_stays h =
      from_right u j k (with_bits w k v x) h ∙ ap (λ (n : ℕ). n % 2 ^ (u + j) / 2 ^ j) (right_stays w k v x) ∙ sym (from_right u j k x h)

  left_part_stays : k + w ≤ j → bits_at u j (with_bits w k v x) ≡ bits_at u j x
  left_part_stays h =
      from_left u j (k + w) (with_bits w k v x) h ∙ ap (λ (n : ℕ). n / 2 ^ (j - (k + w)) % 2 ^ u) (left_stays w k v x) ∙ sym (from_left u j (k + w) x h)

-- zeros stand before a part that is extracted
pub extracted_lt : (part : Part) (x : ℕ) → extracted part x < 2 ^ part.width
unfolding extracted
extracted_lt part x = mod-lt (x / 2 ^ right_of part) (pow_pos part.width)

-- a number at most another and not it
below : (q p : ℕ) → q ≤ p → (q ≢ p) → suc q ≤ p
below q p h d = omega (arith, h, d)

-- a part ends inside the word
ends : (part : Part) (fills : Fills part) → part.width * part.place + part.width ≤ 64
ends part fills = omega (arith, fills.divides, mul-le-mul_left part.width fills.inside, mul-suc part.width part.place)

module _ (part : Part) (fills : Fills part) (v x : ℕ) where
  abbrev w : ℕ
  w = part.width

  abbrev p : ℕ
  p = part.place

  -- every bit that stands outside the part
  pub bits_kept : (i : ℕ) → i < 64 → (w * p ≤ i → i < w * p + w → ⊥) → extracted (part_at 1 i) (placed part v x) ≡ extracted (part_at 1 i) x
  unfolding extracted placed
  bits_kept i h out = go (nat_le (w * p) i) refl
    where
      go : (b : Bool) → nat_le (w * p) i ≡ b → bits_at 1 (right_of (part_at 1 i)) (with_bits w (right_of part) v x) ≡ bits_at 1 (right_of (part_at 1 i)) x
      go false e = left_part_stays w (right_of part) v x 1 (right_of (part_at 1 i)) (omega (arith, leb-false (w * p) i e, ends part fills, mul-suc w p, one-mul (suc i)))
      go true e = last (nat_le (w * p + w) i) refl
        where
          last : (c : Bool) → nat_le (w * p + w) i ≡ c → bits_at 1 (right_of (part_at 1 i)) (with_bits w (right_of part) v x) ≡ bits_at 1 (right_of (part_at 1 i)) x
          last true f = right_part_stays w (right_of part) v x 1 (right_of (part_at 1 i)) (omega (arith, leb-true (w * p + w) i f, h, ends part fills, mul-suc w p, one-mul (suc i)))
          last false f = absurd (out (leb-true (w * p) i e) (leb-false (w * p + w) i f))

  -- every other part of the same width
  pub others_kept : (q : ℕ) → q < fills.count → p ≢ q → extracted (part_at w q) (placed part v x) ≡ extracted (part_at w q) x
  unfolding extracted placed
  others_kept q h d = go (nat_le q p) refl
    where
      go : (b : Bool) → nat_le q p ≡ b → bits_at w (right_of (part_at w q)) (with_bits w (right_of part) v x) ≡ bits_at w (right_of (part_at w q)) x
      go true e =
          let l : suc q ≤ p = below q p (leb-true q p e) (λ z. d (sym z)) in
          left_part_stays w (right_of part) v x w (right_of (part_at w q)) (omega (arith, mul-le-mul_left w l, ends part fills, mul-suc w p))
      go false e =
          right_part_stays w (right_of part) v x w (right_of (part_at w q))
          (omega (arith, mul-le-mul_left w (leb-false q p e), mul-le-mul_left w h, fills.divides, mul-suc w p, mul-suc w q))

  -- the word has 64 bits again
  pub word_kept : x < 2 ^ 64 → placed part v x < 2 ^ 64
  unfolding placed
  word_kept h = bits_stay_word w (right_of part) v x 64 (omega (arith, ends part fills, mul-suc w p)) h

-- Any part of a word, whatever its width and place.

-- a part is extracted as it was placed
pub placed_again : (part : Part) (v x : ℕ) → extracted part (placed part v x) ≡ v % 2 ^ part.width
unfolding extracted placed
placed_again part v x = taken_again part.width (right_of part) v x

-- a part as wide as a word, or wider, has nothing to its right
none_right : (w p : ℕ) → 64 ≤ w → 64 - w * suc p ≡ 0
none_right w p h = omega (arith, mul-suc w p)

-- a narrower one ends inside the word
pub right_fits : (w p k : ℕ) → k ≡ 64 - w * suc p → w ≤ 64 → k + w ≤ 64
right_fits w p k e h = omega (arith, mul-suc w p)

-- the word itself is extracted, and the register is placed whole
pub whole_extracted : (part : Part) (x : ℕ) → 64 ≤ part.width → x < 2 ^ 64 → x ≡ extracted part x
unfolding extracted
whole_extracted part x l h =
    sym
    (ap (λ (k : ℕ). x / 2 ^ k % 2 ^ part.width) (none_right part.width part.place l)
    ∙ ap (λ (n : ℕ). n % 2 ^ part.width) (div-one x)
    ∙ mod-eq_of_lt (lt_of_lt_of_le h (pow_mono l)))

pub whole_placed : (part : Part) (v x : ℕ) → 64 ≤ part.width → v < 2 ^ 64 → x < 2 ^ 64 → v ≡ placed part v x
unfolding placed
whole_placed part v x l hv hx =
    sym (ap (λ (k : ℕ). with_bits part.width k v x) (none_right part.width part.place l) ∙ last)
  where
    wider : 64 ≤ 0 + part.width
    wider = omega (arith, l)

    none_left : x / 2 ^ (0 + part.width) ≡ 0
    none_left = div-eq_of_lt (lt_of_lt_of_le hx (pow_mono wider))

    all : v % 2 ^ part.width ≡ v
    all = mod-eq_of_lt (lt_of_lt_of_le hv (pow_mono l))

    last : x / 2 ^ (0 + part.width) * 2 ^ (0 + part.width) + v % 2 ^ part.width * 2 ^ 0 + x % 2 ^ 0 ≡ v
    last = rw (none_left, all) (omega arith)

-- a part of no bits
pub no_bits_extracted : (part : Part) (x : ℕ) → part.width ≡ 0 → 0 ≡ extracted part x
unfolding extracted
no_bits_extracted part x e = sym (ap (λ (w : ℕ). x / 2 ^ right_of part % 2 ^ w) e ∙ mod-one (x / 2 ^ right_of part))

pub no_bits_placed : (part : Part) (v x : ℕ) → part.width ≡ 0 → x ≡ placed part v x
unfolding placed
no_bits_placed part v x e =
    sym
    (ap (λ (w : ℕ). with_bits w (right_of part) v x) e
    ∙ ap (λ (m : ℕ). x / 2 ^ (right_of part + 0) * 2 ^ (right_of part + 0) + m * 2 ^ right_of part + x % 2 ^ right_of part) (mod-one v ∙ sym (mod-one (x / 2 ^ right_of part)))
    ∙ apart 0 (right_of part) x)

-- the bits of the part taken out and the register's put in
pub part_le : (w k x : ℕ) → bits_at w k x * 2 ^ k ≤ x
part_le w k x = omega (arith, apart w k x)

pub shifted_in : (w k v : ℕ) → k + w ≤ 64 → (v % 2 ^ w * 2 ^ k) % 2 ^ 64 ≡ v % 2 ^ w * 2 ^ k
shifted_in w k v h = shl_exact w k 64 (mod-lt v (pow_pos w)) (omega arith)

pub replaced : (w k v x : ℕ) → x - bits_at w k x * 2 ^ k + v % 2 ^ w * 2 ^ k ≡ with_bits w k v x
replaced w k v x = omega (arith, apart w k x)

-- what is extracted and what is placed are words
pub extracted_word : (part : Part) (x : ℕ) → x < 2 ^ 64 → extracted part x < 2 ^ 64
unfolding extracted
extracted_word part x h = lt_of_le_of_lt (le_trans (mod-le (x / 2 ^ right_of part) (2 ^ part.width)) (shr_le x (right_of part))) h

pub placed_word : (part : Part) (v x : ℕ) → v < 2 ^ 64 → x < 2 ^ 64 → placed part v x < 2 ^ 64
unfolding placed
placed_word part v x hv hx = go (nat_le part.width 64) refl
  where
    go : (b : Bool) → nat_le part.width 64 ≡ b → placed part v x < 2 ^ 64
    go true e = bits_stay_word part.width (right_of part) v x 64 (right_fits part.width part.place (right_of part) refl (leb-true part.width 64 e)) hx
    go false e = subst (λ (n : ℕ). n < 2 ^ 64) (whole_placed part v x (le_of_lt (leb-false part.width 64 e)) hv hx) hv
