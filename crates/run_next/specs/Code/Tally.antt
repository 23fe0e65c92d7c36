-- The counts of a run side by side, eight cells a place, of task t at place + t: those of steps (executed 0, waved 8, trapped 16, idle 24), those of
-- tries that end an item (32, 40, 48) and those of tries that a step follows (56, 64).
use Rattle.std.specs.Prelude.{Bool, cond, List, [], ◌∷◌, ℕ, zero, suc, ◌+◌, ◌*◌, get_or}
use Rattle.step.specs.declared.Attempt.{Attempt}
use Rattle.step.specs.declared.Attempt.TheVariants.{Step, Try}
use Rattle.step.specs.declared.Ending.{Ending}
use Rattle.step.specs.Queues.{numbers}
use Rattle.step.specs.Step.{step_follows}
use Rattle.run.specs.declared.Counts.{Counts}
use Rattle.run.specs.Run.{counts, counts_of, summed, Tally}

-- all cells; the last eight are no place's, so that any number below no_place and any task number have a cell
abbrev pub tally_cells : ℕ
tally_cells = 10 * numbers

-- what is counted at place k of task t
abbrev pub cell_of : List ℕ → (k t : ℕ) → ℕ
cell_of l k t = get_or l (numbers * k + t) 0

-- the counts of task t: items that ended by a step or by a try, and all tries
unfoldable pub own_in : List ℕ → (t : ℕ) → Counts
own_in l t =
    counts (cell_of l 0 t + cell_of l 4 t) (cell_of l 1 t + cell_of l 5 t) (cell_of l 2 t + cell_of l 6 t) (cell_of l 3 t)
    (cell_of l 4 t + cell_of l 5 t + cell_of l 6 t + cell_of l 7 t + cell_of l 8 t)

-- of n task numbers from t on
unfoldable pub own_from : List ℕ → (t n : ℕ) → List Counts
own_from l t zero = []
own_from l t (suc n) = own_in l t ∷ own_from l (suc t) n

abbrev pub all_own : List ℕ → List Counts
all_own l = own_from l 0 numbers

unfoldable pub tally_in : List ℕ → Tally
tally_in l = record { counts = summed (all_own l); own = all_own l }

-- what an attempt that ends so counts for
unfoldable pub attempt_counts : Attempt → (had : Bool) → Ending → Counts
attempt_counts Step had e = counts_of e 0
attempt_counts Try had e = cond (step_follows had e) (counts 0 0 0 0 1) (counts_of e 1)
