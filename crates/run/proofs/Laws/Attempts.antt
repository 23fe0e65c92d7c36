-- The loop over tries and steps is the run. For any instruction set.
use Rattle.std.specs.Prelude.{ℕ, zero, suc, ◌+◌, ◌≡◌, Bool, true, false, cond, List, [], ◌∷◌, get_or, set}
use Rattle.std.proofs.Math.Path.{refl, ap}
use Rattle.std.proofs.Common.{sym, ◌∙◌, arith}
use Rattle.operation.specs.Environment.{Environment}
use Rattle.operation.specs.declared.Decision.{Decision}
use Rattle.step.specs.declared.Attempt.TheVariants.{Step, Try}
use Rattle.step.specs.declared.Ending.{Ending}
use Rattle.step.specs.declared.Ending.TheVariants.{Executed, Waved, Trapped, Idle}
use Rattle.step.specs.State.{State}
use Rattle.step.specs.Act.{Stepped}
use Rattle.step.specs.Step.{attempt_by, has_process, step_follows, tries_of, account_of, ended, after_try, item_by}
use Rattle.run.specs.declared.Counts.{Counts}
use Rattle.run.specs.Run.{counts, no_counts, plus, counts_of, counted, Tally, own_counts, tallied, run_by}
use Rattle.run.specs.Code.Attempts.{added, tried, stepped, run_from}

-- an item's tries may be counted before its ending
tries_first : (e w t x n : ℕ) (c : Counts) → plus c (counts e w t x n) ≡ plus (plus c (counts 0 0 0 0 n)) (counts e w t x 0)
unfolding plus
tries_first e w t x n c = λ i. record {
  executed = mid c.executed e i;
  waved = mid c.waved w i;
  trapped = mid c.trapped t i;
  idle = mid c.idle x i;
  tries = end c.tries n i;
}
  where
    mid : (a b : ℕ) → a + b ≡ a + 0 + b
    mid a b = omega arith

    end : (a b : ℕ) → a + b ≡ a + b + 0
    end a b = omega arith

ending_last : (e : Ending) (n : ℕ) (c : Counts) → plus c (counts_of e n) ≡ plus (plus c (counts 0 0 0 0 n)) (counts_of e 0)
unfolding counts_of
ending_last Executed n c = tries_first 1 0 0 0 n c
ending_last Waved n c = tries_first 0 1 0 0 n c
ending_last (Trapped k p) n c = tries_first 0 0 1 0 n c
ending_last Idle n c = tries_first 0 0 0 1 n c

-- a place that is set, and set again by what stands there then
twice : (l : List Counts) (i : ℕ) (x : Counts) (f : Counts → Counts) → set (set l i x) i (f (get_or (set l i x) i no_counts)) ≡ set l i (f x)
twice [] i x f = refl
twice (c ∷ l) zero x f = refl
twice (c ∷ l) (suc i) x f = ap (λ k. c ∷ k) (twice l i x f)

pub tallied_tried : (t : ℕ) (e : Ending) (n : ℕ) (c : Tally) → tallied t (record { ending = e; tries = n }) c ≡ tallied t (stepped e) (tried t n c)
unfolding tallied counted tried added own_counts
tallied_tried t e n c = λ i. record {
  counts = ending_last e n c.counts i;
  own =
      (ap (set c.own t) (ending_last e n (own_counts t c))
      ∙ sym (twice c.own t (plus (own_counts t c) (counts 0 0 0 0 n)) (counted (stepped e)))) i;
}

module _ (instructions : Environment → Decision) (t : ℕ) (ts : List ℕ) (s : State) (c : Tally) where
  -- the step of an item, and on with the next
  pub from_step : run_from instructions true (t ∷ ts) s c
      ≡ run_from instructions false ts (attempt_by instructions Step t s).state (tallied t (stepped (attempt_by instructions Step t s).ending) c)
  unfolding run_from
  from_step = refl

  -- the try of an item: its step follows, or the next item
  pub from_try : run_from instructions false (t ∷ ts) s c
      ≡ cond (step_follows (has_process s.table.users t) (attempt_by instructions Try t s).ending)
      (run_from instructions true (t ∷ ts) (attempt_by instructions Try t s).state (tried t (tries_of (attempt_by instructions Try t s).ending) c))
      (run_from instructions false ts (attempt_by instructions Try t s).state
      (tallied t (stepped (attempt_by instructions Try t s).ending) (tried t (tries_of (attempt_by instructions Try t s).ending) c)))
  unfolding run_from run_by item_by after_try
  from_try = go (step_follows (has_process s.table.users t) x.ending)
    where
      x : Stepped
      x = attempt_by instructions Try t s

      y : Stepped
      y = attempt_by instructions Step t x.state

      n : ℕ
      n = tries_of x.ending

      go : (b : Bool)
          → run_by instructions tallied ts (cond b (ended y n) (ended x n)).state (tallied t (account_of (cond b (ended y n) (ended x n))) c)
          ≡ cond b (run_by instructions tallied ts y.state (tallied t (stepped y.ending) (tried t n c)))
          (run_by instructions tallied ts x.state (tallied t (stepped x.ending) (tried t n c)))
      go true = ap (run_by instructions tallied ts y.state) (tallied_tried t y.ending n c)
      go false = ap (run_by instructions tallied ts x.state) (tallied_tried t x.ending n c)

  -- no try: the step comes at once
  pub from_no_try : attempt_by instructions Try t s ≡ record { state = s; ending = Idle } → run_from instructions false (t ∷ ts) s c ≡ run_from instructions true (t ∷ ts) s c
  unfolding run_from run_by item_by after_try step_follows tries_of
  from_no_try e =
      ap (λ (x : Stepped). run_by instructions tallied ts (after_try instructions t (has_process s.table.users t) x).state
      (tallied t (account_of (after_try instructions t (has_process s.table.users t) x)) c)) e
