-- The digits of a number, lowest last.
use Rattle.std.specs.Prelude.{ℕ, zero, suc, ◌+◌, ◌-◌, ◌*◌, ◌/◌, ◌%◌, ◌^◌, ◌≤◌, ◌<◌, ◌≡◌, refl, ◌≢◌, List, [], ◌∷◌, ◌++◌, cond, ltb}
use Rattle.std.proofs.Common.{ap, sym, ◌∙◌, arith, sub-one, mod-eq_of_lt, lt-ltb, le-ltb}
use Rattle.std.proofs.Math.Nat.{pow-suc}
use Rattle.report.specs.Report.{decimal_by, decimal, hex, hex_digit}

pub decimal_lowest : (k n : ℕ) → k ≢ 0 → n < 10 → decimal_by k n ≡ (48 + n % 10) ∷ []
unfolding decimal_by
decimal_lowest zero n h b = absurd (h refl)
decimal_lowest (suc k) n h b = rw (lt-ltb n 10 b, mod-eq_of_lt b)

pub decimal_more : (k n : ℕ) → k ≢ 0 → 10 ≤ n → decimal_by k n ≡ decimal_by (k - 1) (n / 10) ++ ((48 + n % 10) ∷ [])
unfolding decimal_by
decimal_more zero n h b = absurd (h refl)
decimal_more (suc k) n h b = rw (le-ltb n 10 b, sub-one)

pub hex_more : (k n : ℕ) → k ≢ 0 → hex k n ≡ hex (k - 1) (n / 16) ++ (hex_digit (n % 16) ∷ [])
unfolding hex
hex_more zero n h = absurd (h refl)
hex_more (suc k) n h = rw sub-one

-- k digits are enough for a number below m: one more changes nothing
abbrev Enough : (m k : ℕ) → Type 0
Enough m k = (n : ℕ) → n < m → decimal_by (suc k) n ≡ decimal_by k n

enough_one : Enough 10 1
unfolding decimal_by
enough_one n h = rw (lt-ltb n 10 h)

enough_more : (m k : ℕ) → Enough m k → Enough (m * 10) (suc k)
unfolding decimal_by
enough_more m k e n h = ap (λ (rest : List ℕ). cond (ltb n 10) ((48 + n) ∷ []) (rest ++ ((48 + n % 10) ∷ []))) (e (n / 10) (omega arith))

enough : (k : ℕ) → Enough (10 ^ suc k) (suc k)
enough zero n h = enough_one n h
enough (suc k) n h = enough_more (10 ^ suc k) (suc k) (enough k) n (rw (pow-suc 10 (suc k)) at h)

pub decimal_of_one : (n : ℕ) → n < 10 → decimal n ≡ (48 + n % 10) ∷ []
unfolding decimal
decimal_of_one n b = decimal_lowest 20 n (omega arith) b

pub decimal_of_more : (n : ℕ) → n < 2 ^ 64 → 10 ≤ n → decimal n ≡ decimal (n / 10) ++ ((48 + n % 10) ∷ [])
unfolding decimal
decimal_of_more n h b = decimal_more 20 n (omega arith) b ∙ ap (λ (l : List ℕ). l ++ ((48 + n % 10) ∷ [])) (sym (enough 18 (n / 10) (omega arith)))
