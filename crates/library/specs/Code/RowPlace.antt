-- Where the row of a task stands in a slice of rows.
use Rattle.std.specs.Prelude.{ℕ, suc, ◌≡◌, true, cond, List, [], ◌∷◌, eqb}
use Rattle.window.specs.declared.Row.{Row}
use Rattle.step.specs.Soundness.{has_row}

-- the index of the first row of task t, the length where there is none
unfoldable pub place_of : (t : ℕ) → List Row → ℕ
place_of t [] = 0
place_of t (r ∷ rs) = cond (eqb r.task t) 0 (suc (place_of t rs))

-- i is the place of task t among the rows, where it is listed
abbrev pub StandsAt : (t : ℕ) → List Row → ℕ → Type 0
StandsAt t rows i = has_row t rows ≡ true → i ≡ place_of t rows
