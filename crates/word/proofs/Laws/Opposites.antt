-- Tests that are opposites: one holds exactly where the other does not.
use Rattle.std.specs.Prelude.{◌≡◌, ℕ, zero, suc, ◌+◌, ◌-◌, ◌*◌, ◌/◌, ◌%◌, ◌<◌, ◌≤◌, Bool, true, false, not, ◌&&◌, ◌||◌, ◌==◌, nat_le, nat_lt}
use Rattle.std.proofs.Common.{mod-lt, zero-lt-suc, arith, ap, subst, lt-ltb, le-ltb}
use Rattle.std.proofs.Math.Path.{refl, sym}
use Rattle.std.proofs.Math.Bool.{not-not}
use Rattle.std.specs.Int.Count.{ones_in}
use Rattle.word.proofs.Laws.Bools.{Le?, below, above, le?}
use Rattle.word.proofs.Laws.Signs.{digit_cases}
use Rattle.word.specs.Bits.{parity_of}
use Rattle.word.specs.Tests.{negative, tests, holds_of}

or_neither : (a b : Bool) → a || b ≡ not (not a && not b)
or_neither true b = refl
or_neither false b = sym (not-not b)

le_not_gt : (m n : ℕ) → nat_le m n ≡ not (nat_lt n m)
le_not_gt m n = go (nat_le m n) (le? m n)
  where
    go : (b : Bool) → Le? m n b → b ≡ not (nat_lt n m)
    go true (below h) = ap not (sym (le-ltb n m h))
    go false (above h) = ap not (sym (lt-ltb n m h))

even_not_odd : (n : ℕ) → (n % 2 == 0) ≡ not (n % 2 == 1)
even_not_odd n = digit_cases (n % 2) (mod-lt n (zero-lt-suc 1)) (λ d. (d == 0) ≡ not (d == 1)) refl refl

module _ (w t psw : ℕ) where
  pub low_pair : (c : ℕ) → c ≤ 3 → holds_of c w t psw ≡ not (holds_of (7 - c) w t psw)
  unfolding holds_of tests
  low_pair zero h = refl
  low_pair (suc zero) h = sym (not-not _)
  low_pair (suc (suc zero)) h = sym (not-not _)
  low_pair (suc (suc (suc zero))) h = or_neither (w == 0) (negative w)
  low_pair (suc (suc (suc (suc c)))) h = absurd (omega arith)

  even_pair : (k : ℕ) → k < 4 → holds_of (8 + 2 * k) w t psw ≡ not (holds_of (8 + 2 * k + 1) w t psw)
  unfolding holds_of tests parity_of
  even_pair zero h = le_not_gt 8 t
  even_pair (suc zero) h = sym (not-not _)
  even_pair (suc (suc zero)) h = sym (not-not _)
  even_pair (suc (suc (suc zero))) h = even_not_odd (ones_in 64 w)
  even_pair (suc (suc (suc (suc k)))) h = absurd (omega arith)

  pub next_pair : (c : ℕ) → 8 ≤ c → c < 16 → c % 2 ≡ 0 → holds_of c w t psw ≡ not (holds_of (c + 1) w t psw)
  next_pair c l h e =
      let k = (c - 8) / 2 in
      let again : 8 + 2 * k ≡ c = omega arith in
      subst (λ (d : ℕ). holds_of d w t psw ≡ not (holds_of (d + 1) w t psw)) again (even_pair k (omega arith))
