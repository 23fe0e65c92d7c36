-- The lines of the access codes as code asks for them: by one or two comparisons.
use Rattle.std.specs.Prelude.{ℕ, zero, suc, ◌<◌, ◌≡◌, refl, false, cond, eqb}
use Rattle.std.proofs.Common.{arith, sym, ne_eqb}
use Rattle.word.specs.Tests.{empty_tag, full_tag}
use Rattle.operand.specs.Access.{access_codes, code_line, source_waits, destination_waits}

-- a fact of the four codes and of the others is one of every code
by_code : (P : ℕ → Type 0) → P 0 → P 1 → P 2 → P 3 → ((n : ℕ) → P (suc (suc (suc (suc n))))) → (ac : ℕ) → P ac
by_code P a b c d e zero = a
by_code P a b c d e (suc zero) = b
by_code P a b c d e (suc (suc zero)) = c
by_code P a b c d e (suc (suc (suc zero))) = d
by_code P a b c d e (suc (suc (suc (suc n)))) = e n

-- a code from 4 up is none of the four
illegal : (n k : ℕ) → k < 4 → eqb (suc (suc (suc (suc n)))) k ≡ false
illegal n k h = ne_eqb _ k (λ e. omega arith)

pub source_waits_by : (ac tag : ℕ) → source_waits ac tag ≡ cond (eqb ac 0) false (cond (eqb ac 3) (full_tag tag) (empty_tag tag))
unfolding source_waits code_line access_codes
source_waits_by ac tag =
    by_code (λ (k : ℕ). source_waits k tag ≡ cond (eqb k 0) false (cond (eqb k 3) (full_tag tag) (empty_tag tag))) refl refl refl refl
    (λ n. rw (illegal n 0 (omega arith), illegal n 3 (omega arith))) ac

pub destination_waits_by : (ac tag : ℕ) → destination_waits ac tag ≡ cond (eqb ac 0) false (cond (eqb ac 1) (empty_tag tag) (full_tag tag))
unfolding destination_waits code_line access_codes
destination_waits_by ac tag =
    by_code (λ (k : ℕ). destination_waits k tag ≡ cond (eqb k 0) false (cond (eqb k 1) (empty_tag tag) (full_tag tag))) refl refl refl refl
    (λ n. rw (illegal n 0 (omega arith), illegal n 1 (omega arith))) ac

pub source_emptied_by : (ac : ℕ) → (code_line ac).source_emptied ≡ eqb ac 2
unfolding code_line access_codes
source_emptied_by = by_code (λ (k : ℕ). (code_line k).source_emptied ≡ eqb k 2) refl refl refl refl (λ n. sym (illegal n 2 (omega arith)))

pub destination_emptied_by : (ac : ℕ) → (code_line ac).destination_emptied ≡ eqb ac 3
unfolding code_line access_codes
destination_emptied_by = by_code (λ (k : ℕ). (code_line k).destination_emptied ≡ eqb k 3) refl refl refl refl (λ n. sym (illegal n 3 (omega arith)))
