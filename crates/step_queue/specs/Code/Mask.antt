-- The free PTs as a word: digit p from the right is 1 where PT p is free.
use Rattle.std.specs.Prelude.{ℕ, ◌-◌, ◌/◌, ◌%◌, ◌^◌, cond, List, [], ◌∷◌, eqb, leb}
use Rattle.step.specs.Queues.{pt_count}

-- the word with digit p zero; a number that is no PT changes nothing
unfoldable pub without : (free p : ℕ) → ℕ
without free p = cond (leb pt_count p) free (cond (eqb (free / 2 ^ p % 2) 0) free (free - 2 ^ p))

-- the word without the PTs of a list
unfoldable pub free_after : List ℕ → (free : ℕ) → ℕ
free_after [] free = free
free_after (p ∷ ps) free = free_after ps (without free p)
