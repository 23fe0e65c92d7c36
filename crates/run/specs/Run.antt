-- A run takes a list of task numbers. Over any instruction set `instructions`, and any note of an item: what is taken down of task t, whose item did so.
-- The run of document 01 takes down how its items ended and their tries, in all and by task number.
use Rattle.std.specs.Prelude.{ℕ, suc, ◌+◌, List, [], ◌∷◌, get_or, set, replicate}
use Rattle.window.specs.Limits.{tasks}
use Rattle.operation.specs.Environment.{Environment}
use Rattle.operation.specs.declared.Decision.{Decision}
use Rattle.operation.specs.Decide.{decide}
use Rattle.step.specs.declared.Ending.{Ending}
use Rattle.step.specs.declared.Ending.TheVariants.{Executed, Waved, Trapped, Idle}
use Rattle.step.specs.State.{State}
use Rattle.step.specs.Step.{Item, Account, account_of, item_by}
use Rattle.run.specs.declared.Counts.{Counts}

-- the state that a run leaves, and what was taken down of its items
pub record Noted (N : Type 0) : Type 0 where
  pub state : State
  pub notes : N

-- each item works on the state that the item before it left
unfoldable pub run_by : {N : Type 0} → (Environment → Decision) → (note : (t : ℕ) → Account → N → N) → List ℕ → State → N → Noted N
run_by instructions note [] s n = record { state = s; notes = n }
run_by instructions note (t ∷ ts) s n =
    let r : Item = item_by instructions t s in
    run_by instructions note ts r.state (note t (account_of r) n)

abbrev pub counts : (executed waved trapped idle tries : ℕ) → Counts
counts e w t i s = record { executed = e; waved = w; trapped = t; idle = i; tries = s }

abbrev pub no_counts : Counts
no_counts = counts 0 0 0 0 0

-- two counts together
unfoldable pub plus : Counts → Counts → Counts
plus c d = counts (c.executed + d.executed) (c.waved + d.waved) (c.trapped + d.trapped) (c.idle + d.idle) (c.tries + d.tries)

-- those of all task numbers together
unfoldable pub summed : List Counts → Counts
summed [] = no_counts
summed (c ∷ cs) = plus c (summed cs)

-- the counts of an item that ended so, with so many tries
unfoldable pub counts_of : Ending → (tries : ℕ) → Counts
counts_of Executed n = counts 1 0 0 0 n
counts_of Waved n = counts 0 1 0 0 n
counts_of (Trapped k p) n = counts 0 0 1 0 n
counts_of Idle n = counts 0 0 0 1 n

-- one item more
unfoldable pub counted : Account → Counts → Counts
counted a c = plus c (counts_of a.ending a.tries)

-- the run's counts, and each task's own: those of task t stand at t, and there is no task 0
pub record Tally : Type 0 where
  pub counts : Counts
  pub own : List Counts

abbrev pub no_tally : Tally
no_tally = record { counts = no_counts; own = replicate (suc tasks) no_counts }

unfoldable pub own_counts : (t : ℕ) → Tally → Counts
own_counts t n = get_or n.own t no_counts

-- an item counts under its task's number, listed or not
unfoldable pub tallied : (t : ℕ) → Account → Tally → Tally
tallied t a n = record { counts = counted a n.counts; own = set n.own t (counted a (own_counts t n)) }

abbrev pub Ran : Type 0
Ran = Noted Tally

-- a run under the instruction set of document 01
unfoldable pub run : List ℕ → State → Ran
run schedule s = run_by decide tallied schedule s no_tally
