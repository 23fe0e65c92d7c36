-- The first of the best of the choices tried.
use Rattle.std.specs.Prelude.{ℕ, zero, suc, ◌≤◌, ◌<◌, ◌≡◌, Bool, false, cond, not, ◌&&◌, List, leb, ltb, eqb, length, Ok, Err}
use Rattle.std.proofs.Common.{arith, sym, ap, ◌∙◌, subst, true≢false, pow_pos, leb-true, leb-false, ltb-true, ltb-false}
use Rattle.std.proofs.Math.Path.{refl}
use Rattle.std.proofs.Math.Bool.{true}
use Rattle.std.proofs.lemmas.Bool.{eqb-false}
use Rattle.refusal.specs.declared.Refusal.{Refusal}
use Rattle.refusal.specs.declared.Refusal.TheVariants.{NoTries}
use Rattle.filling.specs.declared.Best.{Best}
use Rattle.filling.specs.declared.Filling.{Filling}
use Rattle.filling.specs.Filling.{total, sum_of, keeps_rules, better_of, best_of, tries_of, jobs_sound, filling_of, fill_answer}
use Rattle.filling.proofs.Laws.Chosen.{none_chosen}

-- what is known of the best of the first n choices
pub record BestBelow (needs : List ℕ) (n : ℕ) (b : Best) : Type 0 where
  pub kept : keeps_rules needs b.choice ≡ true
  pub summed : b.sum ≡ sum_of needs b.choice
  pub most : (x : ℕ) → x < n → keeps_rules needs x ≡ true → sum_of needs x ≤ b.sum
  pub first : (x : ℕ) → x < b.choice → keeps_rules needs x ≡ true → sum_of needs x < b.sum

nothing_summed : (needs : List ℕ) → sum_of needs 0 ≡ 0
unfolding sum_of total
nothing_summed needs = ap total (none_chosen needs)

nothing_kept : (needs : List ℕ) → keeps_rules needs 0 ≡ true
unfolding keeps_rules
nothing_kept needs = rw (none_chosen needs, nothing_summed needs) refl

module _ (needs : List ℕ) (n : ℕ) (b : Best) (known : BestBelow needs n b) where
  -- what holds of every choice tried before holds of one choice more
  more : (sum : ℕ) → (keeps_rules needs n ≡ true → sum_of needs n ≤ sum) → b.sum ≤ sum → (x : ℕ) → x < suc n → keeps_rules needs x ≡ true → sum_of needs x ≤ sum
  more sum here before x h k = go (leb n x) refl
    where
      go : (c : Bool) → leb n x ≡ c → sum_of needs x ≤ sum
      go true f =
          let same : x ≡ n = let g = leb-true n x f in omega (arith, g, h) in
          subst (λ (y : ℕ). sum_of needs y ≤ sum) (sym same) (here (subst (λ (y : ℕ). keeps_rules needs y ≡ true) same k))
      go false f = let m = known.most x (leb-false n x f) k in omega (arith, m, before)

  better : BestBelow needs (suc n) (better_of needs n b)
  unfolding better_of
  better = go (keeps_rules needs n) (ltb b.sum (sum_of needs n)) refl refl
    where
      stays : (keeps_rules needs n ≡ true → sum_of needs n ≤ b.sum) → BestBelow needs (suc n) b
      stays here = record { kept = known.kept; summed = known.summed; first = known.first; most = more b.sum here (omega arith) }

      go : (k l : Bool) → keeps_rules needs n ≡ k → ltb b.sum (sum_of needs n) ≡ l → BestBelow needs (suc n) (cond (k && l) (record { choice = n; sum = sum_of needs n }) b)
      go true true p q =
          let larger = ltb-true b.sum (sum_of needs n) q in
          record { kept = p; summed = refl; most = more (sum_of needs n) (λ k. omega arith) (omega (arith, larger)); first = λ x h k. let m = known.most x h k in omega (arith, m, larger) }
      go true false p q = stays (λ k. ltb-false b.sum (sum_of needs n) q)
      go false l p q = stays (λ k. absurd (true≢false (sym k ∙ p)))

pub best : (needs : List ℕ) (n : ℕ) → BestBelow needs n (best_of needs n)
unfolding best_of
best needs zero = record { kept = nothing_kept needs; summed = sym (nothing_summed needs); most = λ x h. absurd (omega (arith, h)); first = λ x h. absurd (omega (arith, h)) }
best needs (suc n) = better needs n (best_of needs n) (best needs n)

-- ---- the choice was tried

better_below : (needs : List ℕ) (n : ℕ) (b : Best) → b.choice ≤ n → (better_of needs n b).choice < suc n
unfolding better_of
better_below needs n b h = go (keeps_rules needs n && ltb b.sum (sum_of needs n))
  where
    go : (c : Bool) → (cond c (record { choice = n; sum = sum_of needs n }) b).choice < suc n
    go true = omega arith
    go false = omega (arith, h)

best_below : (needs : List ℕ) (n : ℕ) → (best_of needs n).choice ≤ n
unfolding best_of
best_below needs zero = omega arith
best_below needs (suc n) = let h = better_below needs n (best_of needs n) (best_below needs n) in omega (arith, h)

pub tried : (needs : List ℕ) (n : ℕ) → 0 < n → (best_of needs n).choice < n
unfolding best_of
tried needs zero h = absurd (omega (arith, h))
tried needs (suc n) h = better_below needs n (best_of needs n) (best_below needs n)

pub some_tries : (needs : List ℕ) (tries : ℕ) → 0 < tries → 0 < tries_of needs tries
unfolding tries_of
some_tries needs tries h = omega (arith, h, pow_pos (length needs))

-- ---- what is answered where nothing is refused

pub answered : (needs : List ℕ) (tries : ℕ) (f : Filling) → fill_answer needs tries ≡ Ok f → (filling_of needs tries ≡ f) × (0 < tries)
unfolding fill_answer
answered needs tries f e = go _ (jobs_sound needs) (eqb tries 0) refl e
  where
    go : (r : Refusal) (s z : Bool) → eqb tries 0 ≡ z → cond (not s) (Err r) (cond z (Err NoTries) (Ok (filling_of needs tries))) ≡ Ok f
        → (filling_of needs tries ≡ f) × (0 < tries)
    go r true false p q = let n = eqb-false tries 0 p in (cc, omega (arith, n))
    go r true true p q = cc
    go r false z p q = cc
