-- A choice tried job by job, and the better of two.
use Rattle.std.specs.Prelude.{refl, ℕ, zero, suc, ◌+◌, ◌*◌, ◌/◌, ◌%◌, ◌≤◌, ◌<◌, ◌≡◌, true, cond, ◌&&◌, List, ◌∷◌, leb, eqb, length, get_or, drop, Some, None}
use Rattle.std.proofs.Common.{add-one, arith, ap, ◌∙◌, drop_of_length-le, drop-cons, eq-eqb, ne_eqb}
use Rattle.window.specs.Limits.{most_registers}
use Rattle.filling.specs.declared.Best.{Best}
use Rattle.filling.specs.Filling.{most_jobs, most_chosen, jobs_sound, chosen, total, sum_of, keeps_rules, better_of, best_of}
use Rattle.filling_search.specs.Code.Steps.{tried_of}
use Rattle.filling_search.specs.Laws.Jobs.{few_jobs, small_needs}

-- ---- the loop

-- i jobs are done: so many of them are chosen, with this sum, and the rest of the number is for the others
pub record Trying (needs : List ℕ) (x rest count sum i : ℕ) : Type 0 where
  pub few : count ≤ i
  pub small : sum ≤ most_registers * i
  pub counted : length (chosen x needs) ≡ count + length (chosen rest (drop i needs))
  pub summed : total (chosen x needs) ≡ sum + total (chosen rest (drop i needs))

module _ (needs : List ℕ) (x rest count sum i : ℕ) (t : Trying needs x rest count sum i) where
  module _ (h : i < length needs) where
    one_job : chosen rest (drop i needs)
        ≡ cond (eqb (rest % 2) 1) (get_or needs i 0 ∷ chosen (rest / 2) (drop (i + 1) needs)) (chosen (rest / 2) (drop (i + 1) needs))
    unfolding chosen
    one_job = ap (chosen rest) (drop-cons needs i 0 h) ∙ rw add-one refl

    pub job_passed : (rest % 2 ≡ 1 → ⊥) → Trying needs x (rest / 2) count sum (i + 1)
    job_passed z =
        let e = rw (ne_eqb (rest % 2) 1 z) at one_job in
        record { few = omega (arith, t.few); small = omega (arith, t.small); counted = omega (arith, t.counted, ap length e); summed = omega (arith, t.summed, ap total e) }

    module _ (sound : jobs_sound needs ≡ true) where
      -- the sum does not get too large for a word
      pub sum_fits : sum + get_or needs i 0 ≤ most_registers * most_jobs
      sum_fits = omega (arith, t.small, small_needs needs i sound h, few_jobs needs sound)

      pub job_taken : rest % 2 ≡ 1 → Trying needs x (rest / 2) (count + 1) (sum + get_or needs i 0) (i + 1)
      unfolding total
      job_taken z =
          let e = rw (eq-eqb (rest % 2) 1 z) at one_job in
          record {
            few = omega (arith, t.few);
            small = omega (arith, t.small, small_needs needs i sound h);
            counted = omega (arith, t.counted, ap length e);
            summed = omega (arith, t.summed, ap total e);
          }

      -- a job by its bit, without a choice between the two
      pub job_done : Trying needs x (rest / 2) (count + rest % 2) (sum + rest % 2 * get_or needs i 0) (i + 1)
      job_done = go (rest % 2) refl (omega arith)
        where
          go : (bit : ℕ) → rest % 2 ≡ bit → bit ≤ 1 → Trying needs x (rest / 2) (count + bit) (sum + bit * get_or needs i 0) (i + 1)
          go zero e few =
              let p = job_passed (λ (z : rest % 2 ≡ 1). omega (arith, z, e)) in
              record { few = omega (arith, p.few); small = omega (arith, p.small); counted = omega (arith, p.counted); summed = omega (arith, p.summed) }
          go (suc zero) e few =
              let p = job_taken e in
              record { few = omega (arith, p.few); small = omega (arith, p.small); counted = omega (arith, p.counted); summed = omega (arith, p.summed) }
          go (suc (suc n)) e few = let z : ⊥ = omega arith in absurd z

      pub bit_fits : sum + rest % 2 * get_or needs i 0 ≤ most_registers * most_jobs
      bit_fits = go (rest % 2) (omega arith)
        where
          go : (bit : ℕ) → bit ≤ 1 → sum + bit * get_or needs i 0 ≤ most_registers * most_jobs
          go zero few = omega (arith, sum_fits)
          go (suc zero) few = omega (arith, sum_fits)
          go (suc (suc n)) few = let z : ⊥ = omega arith in absurd z

  -- ---- its end

  pub all_done : length needs ≤ i → tried_of needs x ≡ cond (leb count most_chosen && leb sum most_registers) (Some sum) None
  unfolding tried_of keeps_rules chosen total sum_of
  all_done all =
      let none = ap (chosen rest) (drop_of_length-le needs all) in
      let counted : length (chosen x needs) ≡ count = omega (arith, t.counted, ap length none) in
      let summed : total (chosen x needs) ≡ sum = omega (arith, t.summed, ap total none) in
      rw (counted, summed) refl

-- ---- the better of two

pub best_next : (needs : List ℕ) (x : ℕ) (b c : Best) → b ≡ best_of needs x → c ≡ better_of needs x b → c ≡ best_of needs (x + 1)
unfolding best_of
best_next needs x b c e f = f ∙ ap (better_of needs x) e ∙ rw add-one refl
