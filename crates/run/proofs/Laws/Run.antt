-- A run: its counts add up to the schedule's length, whatever was counted before, and the flag never falls. For any instruction set, the state for any note.
use Rattle.std.specs.Prelude.{◌≡◌, true, ℕ, zero, suc, ◌+◌, ◌≤◌, length, get_or, set}
use Rattle.std.proofs.Math.Path.{refl, ap}
use Rattle.std.proofs.Common.{sym, ◌∙◌, subst, Option, None, Some}
use Rattle.std.proofs.lemmas.Bool.{false≢true}
use mathlib.Core.List.{List, [], ◌∷◌}
use native.Mathlib.Omega.{arith}
use Rattle.refusal.specs.declared.Refusal.{Refusal}
use Rattle.operation.specs.Environment.{Environment}
use Rattle.operation.specs.declared.Decision.{Decision}
use Rattle.operation.specs.Decide.{decide}
use Rattle.step.specs.declared.Ending.{Ending}
use Rattle.step.specs.declared.Ending.TheVariants.{Executed, Waved, Trapped, Idle}
use Rattle.step.specs.State.{State}
use Rattle.step.specs.Step.{Account, account_of, item_by, item}
use Rattle.step.proofs.LiveCounts.{Counted, item_keeps_counted}
use Rattle.step.proofs.Laws.Item.{item_tries, item_flag_kept, item_lengths}
use Rattle.step.proofs.Laws.Lengths.{SameLengths, same_lengths, lengths_join}
use Rattle.run.specs.declared.Counts.{Counts}
use Rattle.run.specs.Schedule.{schedule_refusal, accepts, schedule_sound}
use Rattle.run.specs.Run.{no_counts, plus, counts_of, counted, Tally, no_tally, own_counts, tallied, run_by, run}

-- executed + waved + trapped + idle
abbrev pub sum : Counts → ℕ
sum c = c.executed + c.waved + c.trapped + c.idle

sum_of_lem : (e : Ending) (n : ℕ) → sum (counts_of e n) ≡ 1
unfolding counts_of
sum_of_lem Executed n = refl
sum_of_lem Waved n = refl
sum_of_lem (Trapped k p) n = refl
sum_of_lem Idle n = refl

pub sum_counted : (a : Account) (c : Counts) → sum (counted a c) ≡ suc (sum c)
unfolding counted plus
sum_counted a c = omega (arith, sum_of_lem a.ending a.tries)

tries_of_lem : (e : Ending) (n : ℕ) → (counts_of e n).tries ≡ n
unfolding counts_of
tries_of_lem Executed n = refl
tries_of_lem Waved n = refl
tries_of_lem (Trapped k p) n = refl
tries_of_lem Idle n = refl

pub tries_counted : (a : Account) (c : Counts) → (counted a c).tries ≡ c.tries + a.tries
unfolding counted plus
tries_counted a c = ap (λ n. c.tries + n) (tries_of_lem a.ending a.tries)

-- a schedule that is accepted isn't refused
pub sound_unrefused : (schedule : List ℕ) → schedule_sound schedule ≡ true → schedule_refusal schedule ≡ None
unfolding schedule_sound accepts
sound_unrefused schedule e = go (schedule_refusal schedule) e
  where
    go : (o : Option Refusal) → accepts o ≡ true → o ≡ None
    go None k = refl
    go (Some x) k = absurd (false≢true k)

-- the order in which two items are counted doesn't matter
pub plus_turned : (c d e : Counts) → plus (plus c d) e ≡ plus (plus c e) d
unfolding plus
plus_turned c d e = λ i. record {
  executed = turned_sum c.executed d.executed e.executed i;
  waved = turned_sum c.waved d.waved e.waved i;
  trapped = turned_sum c.trapped d.trapped e.trapped i;
  idle = turned_sum c.idle d.idle e.idle i;
  tries = turned_sum c.tries d.tries e.tries i;
}
  where
    turned_sum : (x y z : ℕ) → x + y + z ≡ x + z + y
    turned_sum x y z = omega arith

counted_turned : (a b : Account) (c : Counts) → counted a (counted b c) ≡ counted b (counted a c)
unfolding counted
counted_turned a b c = plus_turned c (counts_of b.ending b.tries) (counts_of a.ending a.tries)

-- the order of two notes doesn't matter
abbrev Turned : {N : Type 0} → (ℕ → Account → N → N) → Type 0
Turned {N} note = (t u : ℕ) (a b : Account) (n : N) → note t a (note u b n) ≡ note u b (note t a n)

-- two places of a list, each changed by what stands there
places_turned : (l : List Counts) (i j : ℕ) (f g : Counts → Counts) → ((c : Counts) → f (g c) ≡ g (f c))
    → (let k = set l j (g (get_or l j no_counts)) in set k i (f (get_or k i no_counts))) ≡ (let k = set l i (f (get_or l i no_counts)) in set k j (g (get_or k j no_counts)))
places_turned [] i j f g e = refl
places_turned (c ∷ l) zero zero f g e = ap (λ x. x ∷ l) (e c)
places_turned (c ∷ l) zero (suc j) f g e = refl
places_turned (c ∷ l) (suc i) zero f g e = refl
places_turned (c ∷ l) (suc i) (suc j) f g e = ap (λ k. c ∷ k) (places_turned l i j f g e)

tallied_turned : Turned tallied
unfolding tallied own_counts
tallied_turned t u a b n = λ i. record {
  counts = counted_turned a b n.counts i;
  own = places_turned n.own t u (counted a) (counted b) (counted_turned a b) i;
}

module _ (instructions : Environment → Decision) where
  -- the state after a schedule
  unfoldable pub after : List ℕ → State → State
  after [] s = s
  after (t ∷ ts) s = after ts (item_by instructions t s).state

  -- whatever is noted
  pub run_after : {N : Type 0} (note : ℕ → Account → N → N) (ts : List ℕ) (s : State) (n : N) → (run_by instructions note ts s n).state ≡ after ts s
  unfolding run_by after
  run_after note [] s n = refl
  run_after note (t ∷ ts) s n = run_after note ts (item_by instructions t s).state (note t (account_of (item_by instructions t s)) n)

  -- what is noted before a run may be noted behind it, where the order of two notes doesn't matter
  run_noted : {N : Type 0} (note : ℕ → Account → N → N) → Turned note → (t : ℕ) (a : Account) (us : List ℕ) (s : State) (n : N)
      → (run_by instructions note us s (note t a n)).notes ≡ note t a (run_by instructions note us s n).notes
  unfolding run_by
  run_noted note turned t a [] s n = refl
  run_noted note turned t a (u ∷ us) s n =
      let x = item_by instructions u s in
      ap (λ m. (run_by instructions note us x.state m).notes) (turned u t (account_of x) a n)
      ∙ run_noted note turned t a us x.state (note u (account_of x) n)

  sum_run : (ts : List ℕ) (s : State) (n : Tally) → sum (run_by instructions tallied ts s n).notes.counts ≡ length ts + sum n.counts
  unfolding run_by tallied
  sum_run [] s n = omega arith
  sum_run (t ∷ ts) s n =
      let a = account_of (item_by instructions t s) in
      sum_run ts (item_by instructions t s).state (tallied t a n) ∙ omega (arith, sum_counted a n.counts)

  tries_run : (ts : List ℕ) (s : State) (n : Tally) → (run_by instructions tallied ts s n).notes.counts.tries ≤ length ts + n.counts.tries
  unfolding run_by tallied
  tries_run [] s n = omega arith
  tries_run (t ∷ ts) s n =
      let a = account_of (item_by instructions t s) in
      omega (arith, tries_run ts (item_by instructions t s).state (tallied t a n), tries_counted a n.counts, item_tries instructions t s)

  -- the flag stays or goes up
  pub after_kept : (P : ℕ → Type 0) → P 1 → (ts : List ℕ) (s : State) → P s.table.users.flag → P (after ts s).table.users.flag
  unfolding after
  after_kept P up [] s k = k
  after_kept P up (t ∷ ts) s k = after_kept P up ts (item_by instructions t s).state (item_flag_kept instructions P up t s k)

  -- the flag is down at the end: it was down throughout
  pub after_flag : (ts : List ℕ) (s : State) → (after ts s).table.users.flag ≡ 0 → s.table.users.flag ≡ 0
  after_flag ts s = after_kept (λ (x : ℕ). x ≡ 0 → s.table.users.flag ≡ 0) (λ e. absurd (omega arith)) ts s (λ z. z)

  -- the live counts stay those found by counting
  pub after_counted : (ts : List ℕ) (s : State) → Counted s.table.users → Counted (after ts s).table.users
  unfolding after
  after_counted [] s k = k
  after_counted (t ∷ ts) s k = after_counted ts (item_by instructions t s).state (item_keeps_counted instructions t s k)

  after_lengths : (ts : List ℕ) (s : State) → SameLengths (after ts s) s
  unfolding after
  after_lengths [] s = same_lengths s
  after_lengths (t ∷ ts) s = lengths_join (after_lengths ts (item_by instructions t s).state) (item_lengths instructions t s)

-- a run of a list is its first item and a run of the others
pub run_first_state : (t : ℕ) (ts : List ℕ) (s : State) → (run (t ∷ ts) s).state ≡ (run ts (item t s).state).state
unfolding run item run_by
run_first_state t ts s =
    let x = item_by decide t s in
    run_after decide tallied ts x.state (tallied t (account_of x) no_tally) ∙ sym (run_after decide tallied ts x.state no_tally)

pub run_first_notes : (t : ℕ) (ts : List ℕ) (s : State) → (run (t ∷ ts) s).notes ≡ tallied t (account_of (item t s)) (run ts (item t s).state).notes
unfolding run item run_by
run_first_notes t ts s = let x = item_by decide t s in run_noted decide tallied tallied_turned t (account_of x) ts x.state no_tally

-- a run changes the length of no memory, and not how many rows there are
pub run_lengths : (schedule : List ℕ) (s : State) → SameLengths (run schedule s).state s
unfolding run
run_lengths schedule s = subst (λ (x : State). SameLengths x s) (sym (run_after decide tallied schedule s no_tally)) (after_lengths decide schedule s)

-- executed + waved + trapped + idle = items
pub run_counts : (schedule : List ℕ) (s : State) → sum (run schedule s).notes.counts ≡ length schedule
unfolding run
run_counts schedule s = sum_run decide schedule s no_tally ∙ omega arith

-- at most as many tries as items
pub run_tries : (schedule : List ℕ) (s : State) → (run schedule s).notes.counts.tries ≤ length schedule
unfolding run
run_tries schedule s = omega (arith, tries_run decide schedule s no_tally)

-- a run never lowers the flag: down at the end, it was down at the start; up at the start, it is up at the end
pub run_flag : (schedule : List ℕ) (s : State) → (run schedule s).state.table.users.flag ≡ 0 → s.table.users.flag ≡ 0
unfolding run
run_flag schedule s z = after_flag decide schedule s (ap (λ (x : State). x.table.users.flag) (sym (run_after decide tallied schedule s no_tally)) ∙ z)

pub run_flag_up : (schedule : List ℕ) (s : State) → s.table.users.flag ≡ 1 → (run schedule s).state.table.users.flag ≡ 1
unfolding run
run_flag_up schedule s u = ap (λ (x : State). x.table.users.flag) (run_after decide tallied schedule s no_tally) ∙ after_kept decide (λ (x : ℕ). x ≡ 1) refl schedule s u
