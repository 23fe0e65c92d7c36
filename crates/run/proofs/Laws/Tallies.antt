-- The counts of each task number: they add up to the run's, and those of a task are what a note of its items alone takes down. For any instruction set.
use Rattle.std.specs.Prelude.{◌≡◌, Bool, true, false, cond, ℕ, zero, suc, ◌+◌, ◌≤◌, ◌<◌, eqb, leb, length, get_or, set}
use Rattle.std.proofs.Math.Path.{refl, ap}
use Rattle.std.proofs.Common.{sym, ◌∙◌, arith, length-set, get_or-set_same, get_or-set_other}
use mathlib.Core.List.{List, [], ◌∷◌}
use Rattle.std.proofs.Math.ListN.{get_or-eq_default}
use borrow.Author.Tests.{leb-true}
use Rattle.word.proofs.Laws.Bools.{Eq?, same, differ, eq?, and_right}
use Rattle.window.specs.Limits.{tasks}
use Rattle.operation.specs.Environment.{Environment}
use Rattle.operation.specs.declared.Decision.{Decision}
use Rattle.step.specs.Queues.{occ, hit}
use Rattle.step.specs.State.{State}
use Rattle.step.specs.Step.{Account, account_of, item_by}
use Rattle.step.specs.Soundness.{every}
use Rattle.step.proofs.Laws.Item.{item_tries}
use Rattle.step.proofs.Laws.Every.{every_parts}
use Rattle.step.proofs.Laws.Occurrences.{occ_nil, occ_cons, hit_same, hit_differ}
use Rattle.run.specs.declared.Counts.{Counts}
use Rattle.run.specs.Run.{no_counts, plus, counts_of, counted, summed, Tally, own_counts, tallied, run_by}
use Rattle.run.specs.Schedule.{item_sound}
use Rattle.run.proofs.Laws.Run.{sum, sum_counted, tries_counted, plus_turned}

-- ---- sums of counts

-- nothing is added, or nothing was there
pub plus_none : (c : Counts) → plus c no_counts ≡ c
unfolding plus
plus_none c = λ i. record {
  executed = last c.executed i;
  waved = last c.waved i;
  trapped = last c.trapped i;
  idle = last c.idle i;
  tries = last c.tries i;
}
  where
    last : (x : ℕ) → x + 0 ≡ x
    last x = omega arith

pub none_plus : (c : Counts) → plus no_counts c ≡ c
unfolding plus
none_plus c = λ i. record {
  executed = first c.executed i;
  waved = first c.waved i;
  trapped = first c.trapped i;
  idle = first c.idle i;
  tries = first c.tries i;
}
  where
    first : (x : ℕ) → 0 + x ≡ x
    first x = omega arith

pub plus_grouped : (c d e : Counts) → plus c (plus d e) ≡ plus (plus c d) e
unfolding plus
plus_grouped c d e = λ i. record {
  executed = grouped c.executed d.executed e.executed i;
  waved = grouped c.waved d.waved e.waved i;
  trapped = grouped c.trapped d.trapped e.trapped i;
  idle = grouped c.idle d.idle e.idle i;
  tries = grouped c.tries d.tries e.tries i;
}
  where
    grouped : (x y z : ℕ) → x + (y + z) ≡ x + y + z
    grouped x y z = omega arith

-- counts more at one place are counts more of the sum
pub summed_set : (d : Counts) (l : List Counts) (i : ℕ) → i < length l → summed (set l i (plus (get_or l i no_counts) d)) ≡ plus (summed l) d
unfolding summed
summed_set d [] i h = absurd (omega arith)
summed_set d (c ∷ l) zero h = plus_turned c d (summed l)
summed_set d (c ∷ l) (suc i) h = ap (plus c) (summed_set d l i (omega arith)) ∙ plus_grouped c (summed l) d

-- ---- the counts of one task

-- what an item of task u adds to the counts of task t
unfoldable pub counted_for : (t u : ℕ) → Account → Counts → Counts
counted_for t u e c = cond (eqb u t) (counted e c) c

pub counted_other : (t u : ℕ) (e : Account) (c : Counts) → eqb u t ≡ false → counted_for t u e c ≡ c
unfolding counted_for
counted_other t u e c m = ap (λ (b : Bool). cond b (counted e c) c) m

own_tallied : (t u : ℕ) (e : Account) (n : Tally) → t < length n.own → own_counts t (tallied u e n) ≡ counted_for t u e (own_counts t n)
unfolding tallied own_counts counted_for
own_tallied t u e n h = go (eqb u t) (eq? u t)
  where
    go : (b : Bool) → Eq? u t b → get_or (set n.own u (counted e (get_or n.own u no_counts))) t no_counts ≡ cond b (counted e (get_or n.own t no_counts)) (get_or n.own t no_counts)
    go true (same q) =
        ap (λ (x : ℕ). get_or (set n.own x (counted e (get_or n.own x no_counts))) t no_counts) q
        ∙ get_or-set_same n.own t (counted e (get_or n.own t no_counts)) no_counts h
    go false (differ d) = get_or-set_other n.own u t (counted e (get_or n.own u no_counts)) no_counts (λ q. d (sym q))

long_tallied : (u : ℕ) (e : Account) (n : Tally) → length (tallied u e n).own ≡ length n.own
unfolding tallied
long_tallied u e n = length-set n.own u (counted e (own_counts u n))

-- the items of task t in the sums
sum_for : (t u : ℕ) (e : Account) (c : Counts) → sum (counted_for t u e c) ≡ hit t u + sum c
unfolding counted_for
sum_for t u e c = go (eqb u t) (eq? u t)
  where
    go : (b : Bool) → Eq? u t b → sum (cond b (counted e c) c) ≡ hit t u + sum c
    go true (same q) = omega (arith, sum_counted e c, ap (hit t) q ∙ hit_same t)
    go false (differ d) = omega (arith, hit_differ t u (λ q. d (sym q)))

-- and its tries, at most one an item
tries_for : (t u : ℕ) (e : Account) (c : Counts) → e.tries ≤ 1 → (counted_for t u e c).tries ≤ hit t u + c.tries
unfolding counted_for
tries_for t u e c h = go (eqb u t) (eq? u t)
  where
    go : (b : Bool) → Eq? u t b → (cond b (counted e c) c).tries ≤ hit t u + c.tries
    go true (same q) = omega (arith, tries_counted e c, h, ap (hit t) q ∙ hit_same t)
    go false (differ d) = omega arith

module _ (instructions : Environment → Decision) where
  -- what a run counts of task t
  pub own_run : (t : ℕ) (ts : List ℕ) (s : State) (n : Tally) → t < length n.own
      → own_counts t (run_by instructions tallied ts s n).notes ≡ (run_by instructions (counted_for t) ts s (own_counts t n)).notes
  unfolding run_by
  own_run t [] s n h = refl
  own_run t (u ∷ ts) s n h =
      let e : Account = account_of (item_by instructions u s) in
      own_run t ts (item_by instructions u s).state (tallied u e n) (omega (arith, h, long_tallied u e n))
      ∙ ap (λ (c : Counts). (run_by instructions (counted_for t) ts (item_by instructions u s).state c).notes) (own_tallied t u e n h)

  -- past the last task number nothing is counted
  pub past_run : (t : ℕ) (ts : List ℕ) (s : State) (n : Tally) → length n.own ≤ t → own_counts t (run_by instructions tallied ts s n).notes ≡ no_counts
  unfolding run_by own_counts
  past_run t [] s n h = get_or-eq_default n.own no_counts h
  past_run t (u ∷ ts) s n h =
      let e : Account = account_of (item_by instructions u s) in
      past_run t ts (item_by instructions u s).state (tallied u e n) (omega (arith, h, long_tallied u e n))

  -- as many items as the schedule has of it
  pub own_items : (t : ℕ) (ts : List ℕ) (s : State) (c : Counts) → sum (run_by instructions (counted_for t) ts s c).notes ≡ occ t ts + sum c
  unfolding run_by
  own_items t [] s c = omega (arith, occ_nil t)
  own_items t (u ∷ ts) s c =
      let e : Account = account_of (item_by instructions u s) in
      own_items t ts (item_by instructions u s).state (counted_for t u e c) ∙ omega (arith, sum_for t u e c, occ_cons t u ts)

  pub own_tries : (t : ℕ) (ts : List ℕ) (s : State) (c : Counts) → (run_by instructions (counted_for t) ts s c).notes.tries ≤ occ t ts + c.tries
  unfolding run_by
  own_tries t [] s c = omega (arith, occ_nil t)
  own_tries t (u ∷ ts) s c =
      let e : Account = account_of (item_by instructions u s) in
      omega (arith, own_tries t ts (item_by instructions u s).state (counted_for t u e c), tries_for t u e c (item_tries instructions u s), occ_cons t u ts)

  -- the sums of all task numbers stay those of the run
  pub sums_run : (ts : List ℕ) (s : State) (n : Tally) → every item_sound ts ≡ true → length n.own ≡ suc tasks → summed n.own ≡ n.counts
      → summed (run_by instructions tallied ts s n).notes.own ≡ (run_by instructions tallied ts s n).notes.counts
  unfolding run_by tallied own_counts counted item_sound
  sums_run [] s n i h q = q
  sums_run (t ∷ ts) s n i h q =
      let e : Account = account_of (item_by instructions t s) in
      let k : t ≤ tasks = leb-true t tasks (and_right (leb 1 t) (leb t tasks) (every_parts item_sound t ts i).0) in
      sums_run ts (item_by instructions t s).state (tallied t e n) (every_parts item_sound t ts i).1 (length-set n.own t _ ∙ h)
      (summed_set (counts_of e.ending e.tries) n.own t (omega (arith, h, k)) ∙ ap (counted e) q)
