-- A step or a try that ends waved is an act of a decision that waits.
use Rattle.std.proofs.Math.Path.{◌≡◌, refl, ap}
use Rattle.std.proofs.Common.{sym, ◌∙◌, arith, Option, None, Some}
use Rattle.std.specs.Prelude.{◌≢◌, Bool, true, false, cond, ℕ, List}
use Rattle.window.specs.declared.Row.{Row}
use Rattle.operation.specs.Environment.{Environment}
use Rattle.operation.specs.declared.Wait.{Wait}
use Rattle.operation.specs.declared.Wait.TheVariants.{Access, Data, Create}
use Rattle.operation.specs.declared.Fate.{Fate}
use Rattle.operation.specs.declared.Fate.TheVariants.{Continues, Quits, Creates}
use Rattle.operation.specs.declared.Decision.{Decision}
use Rattle.operation.specs.declared.Decision.TheVariants.{Waits, Traps, Executes}
use Rattle.step.specs.declared.Attempt.{Attempt}
use Rattle.step.specs.declared.Processes.{Processes}
use Rattle.step.specs.declared.Ending.TheVariants.{Waved}
use Rattle.step.specs.declared.Attempt.TheVariants.{Step, Try}
use Rattle.step.specs.declared.Queue.{Queue}
use Rattle.step.specs.Queues.{own_number, sfu_number, acting_number, below_total, live_counts, live_total}
use Rattle.step.specs.State.{State, find_row, queue_in, acting_queue, processes_acting}
use Rattle.step.specs.Act.{turned_at, waved_queues, created_in, fault_in, fate_in, change_of, act}
use Rattle.step.specs.Step.{row_decides, acted, attempt_row, attempt_by}
use Rattle.step.proofs.Laws.Motions.{Tidy}
use Rattle.step.proofs.Laws.Act.{own_inside, sfu_inside, own_sfu, own_mates}
use Rattle.step.proofs.Laws.LiveCounts.{turned_counts, passed_counts, sum_of, total_sum}
use Rattle.step.proofs.Laws.Step.{deciding}

-- no fate of a process ends waved
fate_ends : (table : Processes) (a : Attempt) (r : Row) (f : Fate) → (fate_in table a r f).ending ≡ Waved → ⊥
unfolding fate_in created_in fault_in
fate_ends table a r (Continues p) e = let z : ◌≡◌ {A = ℕ} 0 1 = cc in omega arith
fate_ends table a r Quits e = let z : ◌≡◌ {A = ℕ} 0 1 = cc in omega arith
fate_ends table a r (Creates p new) e = go (below_total table.count) e
  where
    go : (b : Bool) → (cond b (created_in table a r p new) (fault_in table a r p new)).ending ≡ Waved → ⊥
    go true e = let z : ◌≡◌ {A = ℕ} 0 1 = cc in omega arith
    go false e = let z : ◌≡◌ {A = ℕ} 0 1 = cc in omega arith

module _ (decide : Environment → Decision) (a : Attempt) (t : ℕ) (s : State) where
  -- the row of the task, and what the process that acts waits for
  pub record Waiting : Type 0 where
    pub row : Row
    pub wait : Wait
    pub found : find_row t s.rows ≡ Some row
    pub nonempty : (acting_queue s.table.users a t).len ≢ 0
    pub acts : attempt_by decide a t s ≡ act s a row (Waits wait)

  pub waved_acts : (attempt_by decide a t s).ending ≡ Waved → Waiting
  unfolding attempt_by attempt_row acted act change_of
  waved_acts = go (find_row t s.rows) refl
    where
      go : (o : Option Row) → find_row t s.rows ≡ o → (attempt_row decide a t s o).ending ≡ Waved → Waiting
      go None f e = let z : ◌≡◌ {A = ℕ} 0 1 = cc in absurd (omega arith)
      go (Some r) f e = by (row_decides decide s r (processes_acting s.table.users a t)) refl e
        where
          by : (x : Option Decision) → row_decides decide s r (processes_acting s.table.users a t) ≡ x → (acted decide s a r x).ending ≡ Waved → Waiting
          by None k e = let z : ◌≡◌ {A = ℕ} 0 1 = cc in absurd (omega arith)
          by (Some (Waits w)) k e = record {
            row = r;
            wait = w;
            found = f;
            nonempty = deciding decide a t s r (Waits w) k;
            acts = ap (attempt_row decide a t s) f ∙ ap (acted decide s a r) k;
          }
          by (Some (Traps c p)) k e = let z : ◌≡◌ {A = ℕ} 0 1 = cc in absurd (omega arith)
          by (Some (Executes x)) k e = absurd (fate_ends s.table.users a r x.fate e)

-- as many processes live of each task, and in all
module _ {psw : List ℕ} {qs : List Queue} (tidy : Tidy psw qs) (t : ℕ) where
  pub waved_counts : (a : Attempt) (w : Wait) → (queue_in qs (acting_number a t)).len ≢ 0 → live_counts (waved_queues a w qs t) ≡ live_counts qs
  unfolding waved_queues turned_at acting_number
  waved_counts Step Access n = turned_counts qs (own_number t)
  waved_counts Step Data n = passed_counts tidy (own_number t) (sfu_number t) (own_inside t) (sfu_inside t) (own_mates t) (own_sfu t t) n
  waved_counts Step Create n = turned_counts qs (own_number t)
  waved_counts Try w n = turned_counts qs (sfu_number t)

  pub waved_total : (a : Attempt) (w : Wait) → (queue_in qs (acting_number a t)).len ≢ 0 → live_total (waved_queues a w qs t) ≡ live_total qs
  waved_total a w n = total_sum (waved_queues a w qs t) ∙ ap sum_of (waved_counts a w n) ∙ sym (total_sum qs)
