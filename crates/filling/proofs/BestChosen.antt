-- What is promised of a filling: it is the first of the best tried; if all were tried, no other choice that keeps the rules has a larger sum,
-- otherwise none has one above the ceiling.
use Rattle.std.specs.Prelude.{ℕ, ◌^◌, ◌≤◌, ◌<◌, ◌≡◌, true, List, length, Ok}
use Rattle.std.proofs.Common.{sym}
use Rattle.std.proofs.Math.Path.{subst}
use Rattle.filling.specs.declared.Filling.{Filling}
use Rattle.filling.specs.Filling.{sum_of, keeps_rules, tries_of, filling_of, fill_answer}
use Rattle.filling.proofs.Laws.Best as laws
use Rattle.filling.proofs.Laws.Ceiling.{under_ceiling}

-- the choice was tried, keeps the rules and has the sum; no choice tried that keeps them has a larger one, and none before it one as large
pub record FirstOfTheBest (needs : List ℕ) (f : Filling) : Type 0 where
  pub tried : f.choice < f.tries
  pub kept : keeps_rules needs f.choice ≡ true
  pub summed : f.sum ≡ sum_of needs f.choice
  pub most : (x : ℕ) → x < f.tries → keeps_rules needs x ≡ true → sum_of needs x ≤ f.sum
  pub first : (x : ℕ) → x < f.choice → keeps_rules needs x ≡ true → sum_of needs x < f.sum

module _ (needs : List ℕ) (tries : ℕ) (f : Filling) (filled : fill_answer needs tries ≡ Ok f) where
  pub first_of_the_best : FirstOfTheBest needs f
  unfolding filling_of
  first_of_the_best = subst (FirstOfTheBest needs) (laws.answered needs tries f filled).0 found
    where
      found : FirstOfTheBest needs (filling_of needs tries)
      found =
          let b = laws.best needs (tries_of needs tries) in
          let some = laws.some_tries needs tries (laws.answered needs tries f filled).1 in
          record {
            tried = laws.tried needs (tries_of needs tries) some;
            kept = b.kept;
            summed = b.summed;
            most = b.most;
            first = b.first;
          }

  -- if all were tried, no choice that keeps the rules has a larger sum
  pub none_larger : f.tries ≡ 2 ^ length needs → (x : ℕ) → x < 2 ^ length needs → keeps_rules needs x ≡ true → sum_of needs x ≤ f.sum
  none_larger all x h = first_of_the_best.most x (subst (λ (n : ℕ). x < n) (sym all) h)

  -- and in any case none has one above the ceiling
  pub none_above : (x : ℕ) → keeps_rules needs x ≡ true → sum_of needs x ≤ f.ceiling
  unfolding filling_of
  none_above x k = subst (λ (g : Filling). sum_of needs x ≤ g.ceiling) (laws.answered needs tries f filled).0 (under_ceiling needs x k)
