-- Filling a module: which of the jobs given go in together, by their register needs (document 02, L13).
use Rattle.std.specs.Prelude.{ℕ, zero, suc, ◌+◌, ◌/◌, ◌%◌, ◌^◌, min, Bool, cond, not, ◌&&◌, List, [], ◌∷◌, leb, ltb, eqb, length, take, Result, Ok, Err}
use Rattle.std.specs.List.{list_all}
use Rattle.refusal.specs.declared.Refusal.{Refusal}
use Rattle.refusal.specs.declared.Refusal.TheVariants.{BadJobs, NoTries}
use Rattle.window.specs.Limits.{most_registers}
use Rattle.filling.specs.declared.Best.{Best}
use Rattle.filling.specs.declared.Filling.{Filling}

-- the most jobs that are given, and the most that are chosen
abbrev pub most_jobs : ℕ
most_jobs = 15

abbrev pub most_chosen : ℕ
most_chosen = 7

-- ---- the jobs

-- an even need from 2 to 2,048
unfoldable pub need_sound : ℕ → Bool
need_sound n = eqb (n % 2) 0 && (leb 2 n && leb n most_registers)

unfoldable pub needs_sound : List ℕ → Bool
needs_sound needs = list_all need_sound needs

-- up to 15 jobs, each with a sound need
unfoldable pub jobs_sound : List ℕ → Bool
jobs_sound needs = leb (length needs) most_jobs && needs_sound needs

-- ---- a choice

-- the needs of the jobs that a binary number chooses, job 1 being its lowest bit
unfoldable pub chosen : (choice : ℕ) → List ℕ → List ℕ
chosen x [] = []
chosen x (n ∷ ns) = cond (eqb (x % 2) 1) (n ∷ chosen (x / 2) ns) (chosen (x / 2) ns)

unfoldable pub total : List ℕ → ℕ
total [] = 0
total (n ∷ ns) = n + total ns

-- the sum of a choice
unfoldable pub sum_of : List ℕ → (choice : ℕ) → ℕ
sum_of needs x = total (chosen x needs)

-- a choice keeps the rules: at most seven jobs, whose needs sum to at most 2,048
unfoldable pub keeps_rules : List ℕ → (choice : ℕ) → Bool
keeps_rules needs x = leb (length (chosen x needs)) most_chosen && leb (sum_of needs x) most_registers

-- ---- the choices in turn

-- a choice that keeps the rules takes the place of the best before it where its sum is larger
unfoldable pub better_of : List ℕ → (choice : ℕ) → Best → Best
better_of needs x best = cond (keeps_rules needs x && ltb best.sum (sum_of needs x)) (record { choice = x; sum = sum_of needs x }) best

-- the first of the best of so many choices, tried from 0 upward
unfoldable pub best_of : List ℕ → (tries : ℕ) → Best
best_of needs zero = record { choice = 0; sum = 0 }
best_of needs (suc x) = better_of needs x (best_of needs x)

-- the tries made: the smaller of the number given and 2 to the number of jobs
unfoldable pub tries_of : List ℕ → (tries : ℕ) → ℕ
tries_of needs tries = min tries (2 ^ length needs)

-- ---- the ceiling

-- needs in descending order
unfoldable pub inserted : ℕ → List ℕ → List ℕ
inserted n [] = n ∷ []
inserted n (m ∷ ms) = cond (leb m n) (n ∷ m ∷ ms) (m ∷ inserted n ms)

unfoldable pub descending : List ℕ → List ℕ
descending [] = []
descending (n ∷ ns) = inserted n (descending ns)

-- the smaller of 2,048 and the sum of the seven largest needs, or of all if there are fewer
unfoldable pub ceiling_of : List ℕ → ℕ
ceiling_of needs = min most_registers (total (take most_chosen (descending needs)))

-- ---- the answer

-- the first of the best tried, its sum, the tries made and the ceiling
unfoldable pub filling_of : List ℕ → (tries : ℕ) → Filling
filling_of needs tries =
    let best : Best = best_of needs (tries_of needs tries) in
    record { choice = best.choice; sum = best.sum; tries = tries_of needs tries; ceiling = ceiling_of needs }

-- 17 for more than 15 jobs or a bad need, then 18 for zero tries
unfoldable pub fill_answer : List ℕ → (tries : ℕ) → Result Filling Refusal
fill_answer needs tries =
    cond (not (jobs_sound needs)) (Err BadJobs)
    (cond (eqb tries 0) (Err NoTries)
    (Ok (filling_of needs tries)))
