-- Overflow by signs, as the pages of ADD and SUB in chapter 5 word it.
use Rattle.std.specs.Prelude.{◌≡◌, ℕ, ◌+◌, ◌^◌, ◌<◌, true, false, ◌↔◌, nat_le}
use Rattle.word.specs.Integers.{add_fits, sub_fits, add_of, sub_of, same_sign}
use Rattle.word.proofs.Laws.Signs.{quality_4, sum_overflows, difference_overflows}

-- ADD: both operands are of the same sign and the result is of the opposite sign
pub add_overflow : (a b : ℕ) → a < 2 ^ 64 → b < 2 ^ 64 → ((add_of a b).quality ≡ 4) ↔ ((same_sign a b ≡ true) × (same_sign a (add_of a b).word ≡ false))
unfolding add_of
add_overflow a b ha hb =
    let q = quality_4 (add_fits a b) (nat_le (2 ^ 64) (a + b)) in
    let s = sum_overflows a b ha hb in
    ((λ e. s.0 (q.0 e)), (λ p. q.1 (s.1 p)))

-- SUB: both operands are of opposite signs, and the sign of the result is the same as the sign of S2
pub sub_overflow : (a b : ℕ) → a < 2 ^ 64 → b < 2 ^ 64 → ((sub_of a b).quality ≡ 4) ↔ ((same_sign a b ≡ false) × (same_sign b (sub_of a b).word ≡ true))
unfolding sub_of
sub_overflow a b ha hb =
    let q = quality_4 (sub_fits a b) (nat_le b a) in
    let s = difference_overflows a b ha hb in
    ((λ e. s.0 (q.0 e)), (λ p. q.1 (s.1 p)))
