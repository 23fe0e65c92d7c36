-- What holds of every run: it is an item and a run of the others, the four counts add up to the items, each count over all task numbers to the run's,
-- there are at most as many tries as items, the create fault flag never falls, the live counts stay those found by counting, a sound state stays sound.
use Rattle.std.specs.Prelude.{◌≡◌, refl, true, List, ◌∷◌, ℕ, suc, ◌+◌, ◌≤◌, length}
use Rattle.std.proofs.Common.{sym, ap, ap₂, ◌∙◌, subst, arith}
use Rattle.std.proofs.lemmas.List.{get_or-replicate}
use Rattle.window.specs.Limits.{tasks}
use Rattle.operation.specs.Environment.{Environment}
use Rattle.operation.specs.declared.Decision.{Decision}
use Rattle.operation.specs.Decide.{decide}
use Rattle.step.specs.Queues.{occ}
use Rattle.step.specs.State.{State}
use Rattle.step.specs.Step.{Account, account_of, item}
use Rattle.step.proofs.LiveCounts.{Counted}
use Rattle.step.specs.Soundness.{every, sound}
use Rattle.run.specs.declared.Counts.{Counts}
use Rattle.run.specs.Schedule.{item_sound}
use Rattle.run.specs.Run.{no_counts, plus, summed, Tally, no_tally, own_counts, tallied, Ran, run_by, run}
use Rattle.run.proofs.Laws.Run.{sum, run_after, run_first_state, run_first_notes, after_counted, run_counts, run_tries, run_flag, run_flag_up}
use Rattle.run.proofs.Laws.Tallies.{own_run, own_items, own_tries, sums_run}
use Rattle.run.proofs.Laws.RunSound.{run_sound}

-- one item, then the others on the state that it left, is the run of all: the same state, and what the item did counted with theirs
pub run_is_item_and_run : (t : ℕ) (ts : List ℕ) (s : State)
    → run (t ∷ ts) s ≡ record { state = (run ts (item t s).state).state; notes = tallied t (account_of (item t s)) (run ts (item t s).state).notes }
run_is_item_and_run t ts s =
    ap₂ {A = State} {B = Tally} {C = Ran} (λ x n. record { state = x; notes = n }) (run_first_state t ts s) (run_first_notes t ts s)

-- executed + waved + trapped + idle = items
pub counts_add_up : (schedule : List ℕ) (s : State)
    → (let c : Counts = (run schedule s).notes.counts in c.executed + c.waved + c.trapped + c.idle) ≡ length schedule
counts_add_up schedule s = run_counts schedule s

-- at most as many tries as items
pub tries_at_most : (schedule : List ℕ) (s : State) → (run schedule s).notes.counts.tries ≤ length schedule
tries_at_most schedule s = run_tries schedule s

-- each count adds up over all task numbers to the run's
pub own_counts_add_up : (schedule : List ℕ) (s : State) → every item_sound schedule ≡ true
    → summed (run schedule s).notes.own ≡ (run schedule s).notes.counts
unfolding run summed plus
own_counts_add_up schedule s i = sums_run decide schedule s no_tally i refl refl

-- the four counts of a task number add up to its items
pub own_items_add_up : (t : ℕ) (schedule : List ℕ) (s : State) → t ≤ tasks
    → (let c : Counts = own_counts t (run schedule s).notes in c.executed + c.waved + c.trapped + c.idle) ≡ occ t schedule
unfolding run own_counts
own_items_add_up t schedule s h =
    ap sum (own_run decide t schedule s no_tally (omega arith))
    ∙ own_items decide t schedule s (own_counts t no_tally)
    ∙ ap (λ (c : Counts). occ t schedule + sum c) (get_or-replicate (suc tasks) t no_counts no_counts (omega arith))
    ∙ omega arith

-- and it makes at most as many tries
pub own_tries_at_most : (t : ℕ) (schedule : List ℕ) (s : State) → t ≤ tasks → (own_counts t (run schedule s).notes).tries ≤ occ t schedule
unfolding run own_counts
own_tries_at_most t schedule s h =
    subst (λ (c : Counts). c.tries ≤ occ t schedule) (sym (own_run decide t schedule s no_tally (omega arith)))
    (omega (arith, own_tries decide t schedule s (own_counts t no_tally), ap (λ (c : Counts). c.tries) (get_or-replicate (suc tasks) t no_counts no_counts (omega arith))))

-- where the flag is down at the end of a run, it was down at its start
pub flag_never_falls : (schedule : List ℕ) (s : State) → (run schedule s).state.table.users.flag ≡ 0 → s.table.users.flag ≡ 0
flag_never_falls schedule s z = run_flag schedule s z

-- once up, it is up after any run
pub flag_stays_up : (schedule : List ℕ) (s : State) → s.table.users.flag ≡ 1 → (run schedule s).state.table.users.flag ≡ 1
flag_stays_up schedule s u = run_flag_up schedule s u

-- the live counts that are stored stay those found by counting, over any instruction set
pub run_keeps_counted : {N : Type 0} (instructions : Environment → Decision) (note : ℕ → Account → N → N) (schedule : List ℕ) (s : State) (n : N) → Counted s.table.users
    → Counted (run_by instructions note schedule s n).state.table.users
run_keeps_counted instructions note schedule s n k =
    subst (λ (x : State). Counted x.table.users) (sym (run_after instructions note schedule s n)) (after_counted instructions schedule s k)

-- what was read and run can always be written
pub run_keeps_sound : (schedule : List ℕ) (s : State) → sound s ≡ true → sound (run schedule s).state ≡ true
run_keeps_sound schedule s e = run_sound schedule s e
