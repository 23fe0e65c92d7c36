-- A run as a loop over tries and steps has it. Document 01 has no such loop: it names items alone, and laws from_try, from_step and from_no_try
-- (Laws/Attempts) say that the loop is the run.
use Rattle.std.specs.Prelude.{ℕ, Bool, true, false, List, [], ◌∷◌, set}
use Rattle.operation.specs.Environment.{Environment}
use Rattle.operation.specs.declared.Decision.{Decision}
use Rattle.step.specs.declared.Attempt.TheVariants.{Step}
use Rattle.step.specs.declared.Ending.{Ending}
use Rattle.step.specs.State.{State}
use Rattle.step.specs.Act.{Stepped}
use Rattle.step.specs.Step.{Account, attempt_by}
use Rattle.run.specs.declared.Counts.{Counts}
use Rattle.run.specs.Run.{counts, plus, Tally, own_counts, tallied, Ran, run_by}

-- counts more of task t
unfoldable pub added : (t : ℕ) → Counts → Tally → Tally
added t d n = record { counts = plus n.counts d; own = set n.own t (plus (own_counts t n) d) }

-- so many tries more of task t
unfoldable pub tried : (t tries : ℕ) → Tally → Tally
tried t tries n = added t (counts 0 0 0 0 tries) n

-- a step that ended so, the tries of its item being taken down
abbrev pub stepped : Ending → Account
stepped e = record { ending = e; tries = 0 }

-- the rest of a run; `stepping` says that the first item has made its try or makes none, and its step is to come
unfoldable pub run_from : (Environment → Decision) → (stepping : Bool) → List ℕ → State → Tally → Ran
run_from instructions false ts s c = run_by instructions tallied ts s c
run_from instructions true [] s c = record { state = s; notes = c }
run_from instructions true (t ∷ ts) s c =
    let x : Stepped = attempt_by instructions Step t s in
    run_by instructions tallied ts x.state (tallied t (stepped x.ending) c)
