-- Every set of jobs is a choice, below 2 to the number of jobs.
use Rattle.std.specs.Prelude.{ℕ, ◌+◌, ◌*◌, ◌^◌, ◌<◌, ◌≡◌, refl, Bool, true, false, cond, List, [], ◌∷◌, length}
use Rattle.std.proofs.Common.{ap, ◌∙◌, pow-suc, arith}
use Rattle.filling.specs.Filling.{chosen}
use Rattle.filling.proofs.Laws.Chosen.{none_chosen, chosen_more}

-- a set says of each job whether it is in it; the needs of its jobs
unfoldable pub in_set : List Bool → List ℕ → List ℕ
in_set [] ns = []
in_set (b ∷ bs) [] = []
in_set (b ∷ bs) (n ∷ ns) = cond b (n ∷ in_set bs ns) (in_set bs ns)

-- its binary number, job 1 being the lowest bit
unfoldable pub choice_of : List Bool → ℕ
choice_of [] = 0
choice_of (b ∷ bs) = cond b 1 0 + 2 * choice_of bs

pub every_set : (set : List Bool) (needs : List ℕ) → chosen (choice_of set) needs ≡ in_set set needs
unfolding in_set choice_of chosen
every_set [] ns = none_chosen ns
every_set (b ∷ bs) [] = refl
every_set (true ∷ bs) (n ∷ ns) = chosen_more 1 (choice_of bs) n ns (omega arith) ∙ ap (λ (l : List ℕ). n ∷ l) (every_set bs ns)
every_set (false ∷ bs) (n ∷ ns) = chosen_more 0 (choice_of bs) n ns (omega arith) ∙ every_set bs ns

pub below_all : (set : List Bool) → choice_of set < 2 ^ length set
unfolding choice_of
below_all [] = omega arith
below_all (true ∷ bs) = let h = below_all bs in omega (arith, h, pow-suc 2 (length bs))
below_all (false ∷ bs) = let h = below_all bs in omega (arith, h, pow-suc 2 (length bs))
