-- Signs of words: when a sum and a difference fit.
use Rattle.std.specs.Prelude.{◌≡◌, ℕ, zero, suc, ◌+◌, ◌-◌, ◌/◌, ◌%◌, ◌^◌, ◌<◌, ◌≤◌, Bool, true, false, not, ◌&&◌, ◌↔◌, ◌==◌, nat_le, refl}
use Rattle.std.proofs.Common.{arith, sym, ◌∙◌, true≢false, lt-ltb, le-ltb, le-leb}
use Rattle.std.proofs.lemmas.Bool.{false≢true, lt-leb}
use Rattle.word.proofs.Laws.Bools.{clash}
use Rattle.word.specs.Integers.{within, add_fits, sub_fits, quality_of, same_sign}

pub digit_cases : (d : ℕ) → d < 2 → (P : ℕ → Type 0) → P 0 → P 1 → P d
digit_cases zero h P p q = p
digit_cases (suc zero) h P p q = q
digit_cases (suc (suc d)) h P p q = absurd (omega arith)

-- a number between two others
inside : (low x high : ℕ) → low ≤ x → x < high → true ≡ within low x high
unfolding within
inside low x high p q = simp (le-leb low x p, lt-ltb x high q)

below : (low x high : ℕ) → x < low → false ≡ within low x high
unfolding within
below low x high p = simp (lt-leb low x p)

and_false : (b : Bool) → false ≡ b && false
and_false true = refl
and_false false = refl

above : (low x high : ℕ) → high ≤ x → false ≡ within low x high
unfolding within
above low x high q = simp (le-ltb x high q) (and_false (nat_le low x))

plus : (a : ℕ) → a / 2 ^ 63 ≡ 0 → a < 2 ^ 63
plus a e = omega arith

minus : (a : ℕ) → a / 2 ^ 63 ≡ 1 → 2 ^ 63 ≤ a
minus a e = omega arith

-- the sign of a word, by cases, and whether a second word has it
by_sign : (a b : ℕ) → a < 2 ^ 64 → b < 2 ^ 64 → (P : Bool → Type 0)
    → (a < 2 ^ 63 → b < 2 ^ 63 → P true) → (a < 2 ^ 63 → 2 ^ 63 ≤ b → P false)
    → (2 ^ 63 ≤ a → b < 2 ^ 63 → P false) → (2 ^ 63 ≤ a → 2 ^ 63 ≤ b → P true) → P (same_sign a b)
unfolding same_sign
by_sign a b ha hb P p q r s =
    digit_cases (a / 2 ^ 63) (omega arith) (λ (d : ℕ). a / 2 ^ 63 ≡ d → P (d == b / 2 ^ 63))
    (λ e. digit_cases (b / 2 ^ 63) (omega arith) (λ (d : ℕ). b / 2 ^ 63 ≡ d → P (0 == d)) (λ f. p (plus a e) (plus b f)) (λ f. q (plus a e) (minus b f)) refl)
    (λ e. digit_cases (b / 2 ^ 63) (omega arith) (λ (d : ℕ). b / 2 ^ 63 ≡ d → P (1 == d)) (λ f. r (minus a e) (plus b f)) (λ f. s (minus a e) (minus b f)) refl)
    refl

-- a sum of two words of one sign fits just where it has the sign
pub sum_fits : (a b r : ℕ) → a < 2 ^ 64 → b < 2 ^ 64 → r ≡ (a + b) % 2 ^ 64 → same_sign a b ≡ true → same_sign a r ≡ add_fits a b
unfolding add_fits
sum_fits a b r ha hb e =
    by_sign a b ha hb (λ x. x ≡ true → same_sign a r ≡ add_fits a b)
    (λ p q _. by_sign a r ha (omega arith) (λ x. x ≡ add_fits a b) (λ _ t. inside _ _ _ (omega arith) (omega arith)) (λ _ t. above _ _ _ (omega arith)) (λ t _. absurd (omega arith)) (λ t _. absurd (omega arith)))
    (λ _ _ z. absurd (false≢true z)) (λ _ _ z. absurd (false≢true z))
    (λ p q _. by_sign a r ha (omega arith) (λ x. x ≡ add_fits a b) (λ t _. absurd (omega arith)) (λ t _. absurd (omega arith)) (λ _ t. below _ _ _ (omega arith)) (λ _ t. inside _ _ _ (omega arith) (omega arith)))

pub mixed_sum : (a b : ℕ) → a < 2 ^ 64 → b < 2 ^ 64 → same_sign a b ≡ false → true ≡ add_fits a b
unfolding add_fits
mixed_sum a b ha hb =
    by_sign a b ha hb (λ x. x ≡ false → true ≡ add_fits a b) (λ _ _ z. absurd (true≢false z))
    (λ p q _. inside _ _ _ (omega arith) (omega arith)) (λ p q _. inside _ _ _ (omega arith) (omega arith)) (λ _ _ z. absurd (true≢false z))

-- a difference of two words of different signs fits just where it has the first's sign
pub difference_fits : (a b r : ℕ) → a < 2 ^ 64 → b < 2 ^ 64 → r < 2 ^ 64 → (r + b) % 2 ^ 64 ≡ a → same_sign a b ≡ false → same_sign a r ≡ sub_fits a b
unfolding sub_fits
difference_fits a b r ha hb hr e =
    by_sign a b ha hb (λ x. x ≡ false → same_sign a r ≡ sub_fits a b) (λ _ _ z. absurd (true≢false z))
    (λ p q _. by_sign a r ha hr (λ x. x ≡ sub_fits a b) (λ _ t. inside _ _ _ (omega arith) (omega arith)) (λ _ t. above _ _ _ (omega arith)) (λ t _. absurd (omega arith)) (λ t _. absurd (omega arith)))
    (λ p q _. by_sign a r ha hr (λ x. x ≡ sub_fits a b) (λ t _. absurd (omega arith)) (λ t _. absurd (omega arith)) (λ _ t. below _ _ _ (omega arith)) (λ _ t. inside _ _ _ (omega arith) (omega arith)))
    (λ _ _ z. absurd (true≢false z))

pub same_difference : (a b : ℕ) → a < 2 ^ 64 → b < 2 ^ 64 → same_sign a b ≡ true → true ≡ sub_fits a b
unfolding sub_fits
same_difference a b ha hb =
    by_sign a b ha hb (λ x. x ≡ true → true ≡ sub_fits a b) (λ p q _. inside _ _ _ (omega arith) (omega arith))
    (λ _ _ z. absurd (false≢true z)) (λ _ _ z. absurd (false≢true z)) (λ p q _. inside _ _ _ (omega arith) (omega arith))

-- ---- overflow

pub quality_4 : (fits carry : Bool) → (quality_of fits carry ≡ 4) ↔ (fits ≡ false)
unfolding quality_of
quality_4 true true = ((λ e. absurd (omega arith)), (λ e. absurd (true≢false e)))
quality_4 true false = ((λ e. absurd (omega arith)), (λ e. absurd (true≢false e)))
quality_4 false carry = ((λ e. refl), (λ e. refl))

pub sum_overflows : (a b : ℕ) → a < 2 ^ 64 → b < 2 ^ 64 → (add_fits a b ≡ false) ↔ ((same_sign a b ≡ true) × (same_sign a ((a + b) % 2 ^ 64) ≡ false))
sum_overflows a b ha hb = ((λ e. go (same_sign a b) refl e), (λ p. sym (sum_fits a b ((a + b) % 2 ^ 64) ha hb refl p.0) ∙ p.1))
  where
    go : (t : Bool) → same_sign a b ≡ t → add_fits a b ≡ false → (t ≡ true) × (same_sign a ((a + b) % 2 ^ 64) ≡ false)
    go true s e = (refl, sum_fits a b ((a + b) % 2 ^ 64) ha hb refl s ∙ e)
    go false s e = clash (add_fits a b) (sym (mixed_sum a b ha hb s)) e

-- of three words two have one sign
opposite_sign : (a b r : ℕ) → a < 2 ^ 64 → b < 2 ^ 64 → r < 2 ^ 64 → same_sign a b ≡ false → same_sign b r ≡ not (same_sign a r)
unfolding same_sign
opposite_sign a b r ha hb hr =
    digit_cases (a / 2 ^ 63) (omega arith) (λ (x : ℕ). (x == b / 2 ^ 63) ≡ false → (b / 2 ^ 63 == r / 2 ^ 63) ≡ not (x == r / 2 ^ 63))
    (digit_cases (b / 2 ^ 63) (omega arith) (λ (y : ℕ). (0 == y) ≡ false → (y == r / 2 ^ 63) ≡ not (0 == r / 2 ^ 63)) (λ e. absurd (true≢false e))
    (λ e. digit_cases (r / 2 ^ 63) (omega arith) (λ (z : ℕ). (1 == z) ≡ not (0 == z)) refl refl))
    (digit_cases (b / 2 ^ 63) (omega arith) (λ (y : ℕ). (1 == y) ≡ false → (y == r / 2 ^ 63) ≡ not (1 == r / 2 ^ 63))
    (λ e. digit_cases (r / 2 ^ 63) (omega arith) (λ (z : ℕ). (0 == z) ≡ not (1 == z)) refl refl) (λ e. absurd (true≢false e)))

pub difference_overflows : (a b : ℕ) → a < 2 ^ 64 → b < 2 ^ 64
    → (sub_fits a b ≡ false) ↔ ((same_sign a b ≡ false) × (same_sign b ((a + 2 ^ 64 - b) % 2 ^ 64) ≡ true))
difference_overflows a b ha hb = ((λ e. go (same_sign a b) refl e), (λ p. sym (fits p.0) ∙ back (same_sign a r) (sym (opposite p.0) ∙ p.1)))
  where
    r : ℕ
    r = (a + 2 ^ 64 - b) % 2 ^ 64

    fits : same_sign a b ≡ false → same_sign a r ≡ sub_fits a b
    fits s = difference_fits a b r ha hb (omega arith) (omega arith) s

    opposite : same_sign a b ≡ false → same_sign b r ≡ not (same_sign a r)
    opposite s = opposite_sign a b r ha hb (omega arith) s

    back : (t : Bool) → not t ≡ true → t ≡ false
    back true e = sym e
    back false e = refl

    go : (t : Bool) → same_sign a b ≡ t → sub_fits a b ≡ false → (t ≡ false) × (same_sign b r ≡ true)
    go true s e = clash (sub_fits a b) (sym (same_difference a b ha hb s)) e
    go false s e = (refl, opposite s ∙ rw (fits s ∙ e))
