-- The needs that a choice takes, job by job.
use Rattle.std.specs.Prelude.{ℕ, ◌+◌, ◌*◌, ◌/◌, ◌%◌, ◌<◌, ◌≡◌, refl, cond, List, [], ◌∷◌, eqb}
use Rattle.std.proofs.Common.{arith}
use Rattle.filling.specs.Filling.{chosen}

pub none_chosen : (needs : List ℕ) → chosen 0 needs ≡ []
unfolding chosen
none_chosen [] = refl
none_chosen (n ∷ ns) = none_chosen ns

-- a lowest bit before a choice of the other jobs
pub chosen_more : (b x n : ℕ) (ns : List ℕ) → b < 2 → chosen (b + 2 * x) (n ∷ ns) ≡ cond (eqb b 1) (n ∷ chosen x ns) (chosen x ns)
unfolding chosen
chosen_more b x n ns h =
    let low : (b + 2 * x) % 2 ≡ b = omega (arith, h) in
    let high : (b + 2 * x) / 2 ≡ x = omega (arith, h) in
    rw (low, high) refl
