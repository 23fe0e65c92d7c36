-- A run over one item is a step: the same refusals, the same buffers, the ending told by the counts and the row of the task.
use Rattle.std.specs.Prelude.{◌≡◌, Bool, not, ◌&&◌, ◌||◌, ℕ, suc, ◌%◌, ◌<◌, eqb, Option, None, Some, Ok}
use Rattle.std.proofs.Math.Path.{refl, sym, ap, subst}
use Rattle.std.proofs.Common.{◌∙◌, arith, eq-eqb}
use Rattle.std.proofs.Math.Bool.{true, false, cond}
use mathlib.Core.List.{List, [], ◌∷◌}
use Rattle.std.proofs.Math.ListN.{length, get_or, set, take, length-take}
use Rattle.std.proofs.Math.Seq.{get_or-take, get_or-set_same}
use Rattle.window.specs.declared.Row.{Row}
use Rattle.refusal.specs.declared.Refusal.{Refusal}
use Rattle.refusal.specs.declared.Refusal.TheVariants.{ItemOutOfRange}
use Rattle.operation.specs.Environment.{kind_of}
use Rattle.operation.specs.declared.Trap.{Trap}
use Rattle.operation.specs.declared.Trap.TheVariants.{CreateFault, IllegalInstruction, ProtectionViolation, PrivilegedInstruction, SupervisorCall, SimulatedInstruction, DataException}
use Rattle.operation.specs.declared.Fate.{Fate}
use Rattle.operation.specs.declared.Fate.TheVariants.{Continues, Quits, Creates}
use Rattle.operation.specs.declared.Decision.{Decision}
use Rattle.operation.specs.declared.Decision.TheVariants.{Waits, Traps, Executes}
use Rattle.operation.specs.Decide.{decide}
use Rattle.step.specs.declared.Attempt.{Attempt}
use Rattle.step.specs.declared.Attempt.TheVariants.{Step, Try}
use Rattle.step.specs.declared.Processes.{Processes}
use Rattle.step.specs.declared.Ending.{Ending}
use Rattle.step.specs.declared.Ending.TheVariants.{Executed, Waved, Trapped, Idle}
use Rattle.step.specs.Queues.{below_total}
use Rattle.step.specs.State.{State, put_row}
use Rattle.step.specs.Act.{Stepped, trapped_row, created_in, fault_in, fate_in, change_of, act}
use Rattle.step.specs.Step.{attempt_by, has_process, step_follows, tries_of, Account, account_of, ended, after_try, item_by, item}
use Rattle.step.specs.Soundness.{every, has_row}
use Rattle.step.proofs.Laws.Rows.{find_task}
use Rattle.step.proofs.Laws.Act.{change_fixed}
use Rattle.step.proofs.Laws.Step.{idles, acts, attempts}
use Rattle.step.proofs.Laws.Sound.{found_has_row}
use Rattle.run.specs.Run.{no_counts, plus, counts_of, counted, no_tally, tallied, Ran, run_by, run}
use Rattle.run.specs.Schedule.{item_sound, schedule_refusal}
use Rattle.run.proofs.Laws.Run.{run_lengths}
use Rattle.library.specs.declared.Rows.{Rows}
use Rattle.library.specs.declared.Sizes.{Sizes}
use Rattle.library.specs.declared.RunResult.{RunResult}
use Rattle.library.specs.Buffers.{Buffers, fields_in, holding}
use Rattle.library.specs.Calls.{unless, leaving, or_else, state_refusal, run_refusal, run_answer, run_leaves, task_refusal, step_refusal, step_answer, step_leaves}
use Rattle.library.specs.Code.HeldRows.{held_rows}
use Rattle.library.specs.Code.RowPlace.{place_of, StandsAt}
use Rattle.library.specs.Empty.{empty_row}
use Rattle.library.proofs.InPlace.{run_in_place}
use Rattle.library.specs.Promises.{run_answered, RunPromise, step_answered, StepPromise}
use Rattle.library.proofs.Laws.Numbers.{step_promise}
use Rattle.library.proofs.Laws.RowPlace.{place_below_lem, put_at_lem, first_listed}
use Rattle.run_schedule.specs.Code.OneItem.{trap_of, ending_of, answer_of, row_at}

-- ---- the ending, by the counts and the row

trap_again : (k : Trap) → trap_of (kind_of k) ≡ k
unfolding trap_of kind_of
trap_again CreateFault = refl
trap_again IllegalInstruction = refl
trap_again ProtectionViolation = refl
trap_again PrivilegedInstruction = refl
trap_again SupervisorCall = refl
trap_again SimulatedInstruction = refl
trap_again DataException = refl

-- the row says kind and PSW of a trap
Records : Ending → Row → Type 0
Records Executed r = ◌≡◌ {A = ℕ} 0 0
Records Waved r = ◌≡◌ {A = ℕ} 0 0
Records (Trapped k p) r = (r.kind ≡ kind_of k) × (r.psw ≡ p)
Records Idle r = ◌≡◌ {A = ℕ} 0 0

by_ending : (r : Row) (e : Ending) (n : ℕ) → Records e r → ending_of (plus no_counts (counts_of e n)) r ≡ e
unfolding ending_of plus counts_of Records
by_ending r Executed n z = refl
by_ending r Waved n z = refl
by_ending r (Trapped k p) n (a, b) = rw (a, b, trap_again k) refl
by_ending r Idle n z = refl

idle_records : (r : Row) → Records Idle r
unfolding Records
idle_records r = refl

told : (a : Account) (r : Row) → Records a.ending r → ending_of (counted a no_counts) r ≡ a.ending
unfolding counted
told a r = by_ending r a.ending a.tries

fate_records : (table : Processes) (a : Attempt) (r : Row) (f : Fate) → Records (fate_in table a r f).ending (fate_in table a r f).row
unfolding fate_in created_in fault_in trapped_row Records
fate_records table a r (Continues p) = refl
fate_records table a r Quits = refl
fate_records table a r (Creates p new) = go (below_total table.count)
  where
    go : (b : Bool) → Records (cond b (created_in table a r p new) (fault_in table a r p new)).ending (cond b (created_in table a r p new) (fault_in table a r p new)).row
    go true = refl
    go false = (refl, refl)

change_records : (table : Processes) (a : Attempt) (r : Row) (d : Decision) → Records (change_of table a r d).ending (change_of table a r d).row
unfolding change_of trapped_row Records
change_records table a r (Waits w) = refl
change_records table a r (Traps k p) = (refl, refl)
change_records table a r (Executes e) = fate_records table a r e.fate

-- a row of the task put for another stands where that stood
put_place : (t : ℕ) (x : Row) (rows : List Row) → x.task ≡ t → (place_of t (put_row t x rows) ≡ place_of t rows) × (has_row t (put_row t x rows) ≡ has_row t rows)
unfolding place_of has_row put_row
put_place t x [] e = (refl, refl)
put_place t x (r ∷ rs) e = go (eqb r.task t) refl (put_place t x rs e)
  where
    go : (b : Bool) → eqb r.task t ≡ b → (place_of t (put_row t x rs) ≡ place_of t rs) × (has_row t (put_row t x rs) ≡ has_row t rs)
        → (place_of t (cond b (x ∷ rs) (r ∷ put_row t x rs)) ≡ cond b 0 (suc (place_of t rs))) × (has_row t (cond b (x ∷ rs) (r ∷ put_row t x rs)) ≡ b || has_row t rs)
    go true q ih = (ap (λ (b : Bool). cond b 0 (suc (place_of t rs))) (eq-eqb x.task t e), ap (λ (b : Bool). b || has_row t rs) (eq-eqb x.task t e))
    go false q ih = (
      ap (λ (b : Bool). cond b 0 (suc (place_of t (put_row t x rs)))) q ∙ ap suc ih.0,
      ap (λ (b : Bool). b || has_row t (put_row t x rs)) q ∙ ih.1,
    )

-- an attempt: it leaves the task's row in its place, with the record of a trap
module _ (a : Attempt) (t : ℕ) (s : State) where
  attempt_place : (place_of t (attempt_by decide a t s).state.rows ≡ place_of t s.rows) × (has_row t (attempt_by decide a t s).state.rows ≡ has_row t s.rows)
  unfolding act
  attempt_place =
      elim (attempts decide a t s) [
        | idles e n ↦ (ap (λ (y : Stepped). place_of t y.state.rows) e, ap (λ (y : Stepped). has_row t y.state.rows) e)
        | acts r d f q o n e ↦
            let k : r.task ≡ t = find_task t s.rows r f in
            let x = (change_of s.table.users a r d).row in
            let u : x.task ≡ t = ap (λ (y : Row). y.task) (change_fixed s.table.users a r d) ∙ k in
            let v : (attempt_by decide a t s).state.rows ≡ put_row t x s.rows =
            ap (λ (y : Stepped). y.state.rows) e ∙ ap (λ (i : ℕ). put_row i x s.rows) k in
            let w = put_place t x s.rows u in
            (ap (place_of t) v ∙ w.0, ap (has_row t) v ∙ w.1)
      ]

  attempt_records : (x : Row) → (has_row t s.rows ≡ true → x ≡ get_or (attempt_by decide a t s).state.rows (place_of t s.rows) empty_row) → Records (attempt_by decide a t s).ending x
  unfolding act
  attempt_records x h =
      elim (attempts decide a t s) [
        | idles e n ↦ subst (λ (y : Stepped). Records y.ending x) (sym e) (idle_records x)
        | acts r d f q o n e ↦
            let listed : has_row t s.rows ≡ true = found_has_row t s.rows r f in
            let k : r.task ≡ t = find_task t s.rows r f in
            let z = (change_of s.table.users a r d).row in
            let v : (attempt_by decide a t s).state.rows ≡ set s.rows (place_of t s.rows) z =
            ap (λ (y : Stepped). y.state.rows) e ∙ ap (λ (i : ℕ). put_row i z s.rows) k ∙ put_at_lem t z s.rows in
            let w : x ≡ z =
            h listed ∙ ap (λ (l : List Row). get_or l (place_of t s.rows) empty_row) v ∙ get_or-set_same s.rows (place_of t s.rows) z empty_row (place_below_lem t s.rows listed) in
            subst (λ (y : Stepped). Records y.ending x) (sym e)
            (subst (λ (y : Row). Records (change_of s.table.users a r d).ending y) (sym w) (change_records s.table.users a r d))
      ]

module _ (t : ℕ) (s : State) where
  one_run : run (t ∷ []) s ≡ record { state = (item t s).state; notes = tallied t (account_of (item t s)) no_tally }
  unfolding run run_by item
  one_run = refl

  -- x is what stands afterwards where the row of the task stood
  module _ (x : Row) where
    item_records : (has_row t s.rows ≡ true → x ≡ get_or (item t s).state.rows (place_of t s.rows) empty_row) → Records (item t s).ending x
    unfolding item item_by after_try
    item_records = go (step_follows (has_process s.table.users t) tried.ending)
      where
        tried : Stepped
        tried = attempt_by decide Try t s

        after : Stepped
        after = attempt_by decide Step t tried.state

        go : (b : Bool) → (has_row t s.rows ≡ true → x ≡ get_or (cond b (ended after (tries_of tried.ending)) (ended tried (tries_of tried.ending))).state.rows (place_of t s.rows) empty_row)
            → Records (cond b (ended after (tries_of tried.ending)) (ended tried (tries_of tried.ending))).ending x
        go false h = attempt_records Try t s x h
        go true h =
            let p = attempt_place Try t s in
            attempt_records Step t tried.state x
            (λ e. h (sym p.1 ∙ e) ∙ ap (λ (i : ℕ). get_or after.state.rows i empty_row) (sym p.0))

    one_item : (has_row t s.rows ≡ true → x ≡ get_or (run (t ∷ []) s).state.rows (place_of t s.rows) empty_row) → ending_of (run (t ∷ []) s).notes.counts x ≡ (item t s).ending
    unfolding run run_by item tallied
    one_item h = told (account_of (item t s)) x (item_records h)

-- ---- the call

module _ (n : Sizes) (b : Buffers) (t : ℕ) where
  schedule_same : schedule_refusal (t ∷ []) ≡ task_refusal t
  unfolding schedule_refusal task_refusal every
  schedule_same = go (item_sound t)
    where
      go : (i : Bool) → cond (not (i && true)) (Some ItemOutOfRange) None ≡ cond (not i) (Some ItemOutOfRange) None
      go true = refl
      go false = refl

  refusal_same : run_refusal n b (t ∷ []) ≡ step_refusal n b t
  unfolding run_refusal step_refusal
  refusal_same = ap (or_else (state_refusal n b)) schedule_same

  leaves_same : run_leaves n b (t ∷ []) ≡ step_leaves n b t
  unfolding run_leaves run_answer step_leaves step_answer unless leaving
  leaves_same = go (step_refusal n b t) refl
    where
      go : (o : Option Refusal) → step_refusal n b t ≡ o
          → leaving (unless (run_refusal n b (t ∷ [])) (run (t ∷ []) (fields_in n b)).notes) b (holding (run (t ∷ []) (fields_in n b)).state b)
          ≡ leaving (unless (step_refusal n b t) (item t (fields_in n b)).ending) b (holding (item t (fields_in n b)).state b)
      go (Some e) q = rw (refusal_same, q) refl
      go None q = rw (refusal_same, q) (ap (λ (r : Ran). holding r.state b) (one_run t (fields_in n b)))

  -- rows of seven that the run leaves, and the place where the task's row stood
  module _ (v : Rows) (seven : length v.at ≡ 7) (i : ℕ) (stands : StandsAt t b.rows i) where
    -- what stands there among the first n of them
    row_there : run_refusal n b (t ∷ []) ≡ None → held_rows v ≡ (run_leaves n b (t ∷ [])).rows → has_row t (fields_in n b).rows ≡ true
        → row_at v.at i ≡ get_or (run (t ∷ []) (fields_in n b)).state.rows (place_of t (fields_in n b).rows) empty_row
    unfolding fields_in held_rows
    row_there q h e =
        let f = first_listed t n.rows b.rows e in
        let j : i ≡ place_of t (take n.rows b.rows) = stands f.0 ∙ sym f.1 in
        let a : take n.rows (take v.n v.at) ≡ (run (t ∷ []) (fields_in n b)).state.rows = ap (take n.rows) h ∙ ap (λ (s : State). s.rows) (run_in_place n b (t ∷ []) q) in
        let l : i < length (take n.rows (take v.n v.at)) =
        omega (arith, j, place_below_lem t (take n.rows b.rows) e, ap length a, (run_lengths (t ∷ []) (fields_in n b)).rows) in
        let m : i < length (take v.n v.at) = omega (arith, l, length-take n.rows (take v.n v.at)) in
        let z : i % 7 ≡ i = omega (arith, m, seven, length-take v.n v.at) in
        rw (← a, ← j, z)
        (sym (get_or-take n.rows (take v.n v.at) i empty_row (omega (arith, l, length-take n.rows (take v.n v.at))) ∙ get_or-take v.n v.at i empty_row (omega (arith, m, length-take v.n v.at))))

    answer_same : held_rows v ≡ (run_leaves n b (t ∷ [])).rows → answer_of (run_answered (run_answer n b (t ∷ []))).answer (row_at v.at i) ≡ step_answered (step_answer n b t)
    unfolding run_answer step_answer unless run_answered step_answered answer_of
    answer_same h = go (step_refusal n b t) refl
      where
        go : (o : Option Refusal) → step_refusal n b t ≡ o
            → answer_of (run_answered (unless (run_refusal n b (t ∷ [])) (run (t ∷ []) (fields_in n b)).notes)).answer (row_at v.at i)
            ≡ step_answered (unless (step_refusal n b t) (item t (fields_in n b)).ending)
        go (Some e) q = rw (refusal_same, q) refl
        go None q = rw (refusal_same, q) (ap Ok (one_item t (fields_in n b) (row_at v.at i) (row_there (refusal_same ∙ q) h)))

    pub step_by_run : (r : RunResult) (a : Buffers) → held_rows v ≡ a.rows → RunPromise n b (t ∷ []) r a → StepPromise n b t (answer_of r.answer (row_at v.at i)) a
    step_by_run r a h p =
        step_promise
        (ap (λ (z : RunResult). answer_of z.answer (row_at v.at i)) p.answer ∙ answer_same (h ∙ ap (λ (z : Buffers). z.rows) p.leaves))
        (p.leaves ∙ leaves_same)
