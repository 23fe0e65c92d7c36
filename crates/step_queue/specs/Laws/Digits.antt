-- Digits of a word.
use Rattle.std.specs.Prelude.{◌≡◌, refl, ◌≢◌, ℕ, zero, suc, ◌/◌, ◌%◌, ◌^◌, ◌≤◌}
use Rattle.std.proofs.Common.{sym, ap, ◌∙◌, pow-suc, one-add, arith, shr-shr}

pub half : (z j : ℕ) → z / 2 ^ suc j ≡ z / 2 / 2 ^ j
half z j = sym (shr-shr z 1 j ∙ ap (λ (k : ℕ). z / 2 ^ k) (one-add j))

-- a digit that is one weighs no more than the number
pub digit_le : (p z : ℕ) → z / 2 ^ p % 2 ≢ 0 → 2 ^ p ≤ z
digit_le zero z h = go z (λ e. h (rw e refl))
  where
    go : (z : ℕ) → z ≢ 0 → 2 ^ zero ≤ z
    go zero n = absurd (n refl)
    go (suc z) n = omega arith
digit_le (suc p) z h =
    let i : 2 ^ p ≤ z / 2 = digit_le p (z / 2) (λ e. h (ap (λ (x : ℕ). x % 2) (half z p) ∙ e)) in omega (arith, pow-suc 2 p)
