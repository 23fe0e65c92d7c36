-- Performs for each kind of decision, along an equation of decisions, and against Acts.
use Rattle.std.specs.Prelude.{ℕ, ◌<◌, ◌≡◌, ◌≢◌, Bool, List, [], ◌∷◌, length, set}
use Rattle.std.proofs.Math.Path.{refl, ap}
use Rattle.std.proofs.Common.{sym, ◌∙◌, subst, Some}
use Rattle.std.proofs.Math.Bool.{cond}
use Rattle.std.proofs.Math.ListN.{get_or}
use Rattle.std.proofs.lemmas.List.{set-get_or}
use Rattle.std.proofs.Math.Seq.{get_or-set_same, get_or-set_other}
use Rattle.window.specs.declared.Row.{Row}
use Rattle.window.specs.Windows.{register_window, data_word_window}
use Rattle.window.specs.Memories.{Memory, written, stored_all}
use Rattle.operation.specs.declared.Trap.{Trap}
use Rattle.operation.specs.declared.Trap.TheVariants as trap
use Rattle.operation.specs.declared.Wait.{Wait}
use Rattle.operation.specs.declared.Wait.TheVariants as wait
use Rattle.operation.specs.declared.Effects.{Effects}
use Rattle.operation.specs.declared.Fate.{Fate}
use Rattle.operation.specs.declared.Fate.TheVariants as fate
use Rattle.operation.specs.declared.Decision.{Decision}
use Rattle.operation.specs.declared.Decision.TheVariants as decision
use Rattle.operation.specs.declared.Course.{Course}
use Rattle.step.specs.declared.Attempt.{Attempt}
use Rattle.step.specs.declared.Attempt.TheVariants.{Step, Try}
use Rattle.step.specs.declared.Ending.TheVariants.{Executed, Waved, Trapped}
use Rattle.step.specs.declared.Motion.TheVariants.{Stays, Joins}
use Rattle.step.specs.Act.{register_writes, data_writes}
use Rattle.step.specs.Code.Parts.{result, created_motion, waved_motion, fate_result, decision_result, result_of, fate_psws, decision_psws, psws_after, registers_written, data_written, Acts}
use Rattle.step.specs.Code.Performs.{trap_course, wait_course, fate_course, course_of, Performs, course_result}

pub performs_along : (row : Row) (d d' : Decision) (pt fresh : ℕ) (r : Course) (psw psw' : List ℕ) (m m' n n' : Memory) → d ≡ d'
    → Performs row d pt fresh r psw psw' m m' n n' → Performs row d' pt fresh r psw psw' m m' n n'
performs_along row d d' pt fresh r psw psw' m m' n n' e p = subst (λ (x : Decision). Performs row x pt fresh r psw psw' m m' n n') e p

module _ (row : Row) (pt fresh : ℕ) (psw : List ℕ) (m n : Memory) where
  pub performs_waits : (w : Wait) → Performs row (decision.Waits w) pt fresh (wait_course w) psw psw m m n n
  unfolding course_of decision_psws register_writes data_writes written stored_all
  performs_waits w = record { course = refl; psws = refl; registers = refl; data_words = refl }

  -- a trap stores a PSW in the process
  pub performs_stores : (k : Trap) (p : ℕ) (r : Course) (psw' : List ℕ) → r ≡ trap_course k → psw' ≡ set psw pt p
      → Performs row (decision.Traps k p) pt fresh r psw psw' m m n n
  unfolding course_of decision_psws register_writes data_writes written stored_all
  performs_stores k p r psw' e q = record { course = e; psws = q; registers = refl; data_words = refl }

  -- where that is the PSW of the process already, nothing changes
  pub performs_traps : (k : Trap) (p : ℕ) (r : Course) → r ≡ trap_course k → p ≡ get_or psw pt 0 → Performs row (decision.Traps k p) pt fresh r psw psw m m n n
  performs_traps k p r e q = performs_stores k p r psw e (sym (ap (set psw pt) q ∙ set-get_or psw pt 0))

  pub performs_executes : (e : Effects) (r : Course) (psw' : List ℕ) (m' n' : Memory) → r ≡ fate_course e.fate → psw' ≡ fate_psws pt fresh e.fate psw
      → m' ≡ written (register_window row) (e.first ∷ e.second ∷ e.third ∷ e.destination ∷ []) m → n' ≡ written (data_word_window row) (e.datum ∷ []) n
      → Performs row (decision.Executes e) pt fresh r psw psw' m m' n n'
  unfolding course_of decision_psws register_writes data_writes
  performs_executes e r psw' m' n' c f g h = record { course = c; psws = f; registers = g; data_words = h }

-- what is performed is what Acts says: the course and the PSWs after it tell the result
module _ (a : Attempt) (pt free : ℕ) (room : Bool) (psw : List ℕ) (here : pt < length psw) (other : pt ≢ free) where
  trap_result : (k : Trap) (p q : ℕ) → q ≡ p → result (Trapped k p) Stays ≡ course_result a free room q (trap_course k)
  unfolding course_result trap_course
  trap_result trap.CreateFault p q e = rw e
  trap_result trap.IllegalInstruction p q e = rw e
  trap_result trap.ProtectionViolation p q e = rw e
  trap_result trap.PrivilegedInstruction p q e = rw e
  trap_result trap.SupervisorCall p q e = rw e
  trap_result trap.SimulatedInstruction p q e = rw e
  trap_result trap.DataException p q e = rw e

  fate_result_lem : (f : Fate) → fate_result a free room f ≡ course_result a free room (get_or (fate_psws pt free f psw) pt 0) (fate_course f)
  unfolding fate_result course_result fate_psws fate_course
  fate_result_lem (fate.Continues p) = refl
  fate_result_lem fate.Quits = refl
  fate_result_lem (fate.Creates p new) =
      let e : get_or (set (set psw pt p) free new) pt 0 ≡ p = get_or-set_other (set psw pt p) free pt new 0 other ∙ get_or-set_same psw pt p 0 here in
      ap (λ (q : ℕ). cond room (result Executed (created_motion a free)) (result (Trapped trap.CreateFault q) (Joins free))) (sym e)

  wait_result : (a : Attempt) (w : Wait) (p : ℕ) → result Waved (waved_motion a w) ≡ course_result a free room p (wait_course w)
  unfolding course_result waved_motion
  wait_result Step wait.Access p = refl
  wait_result Step wait.Data p = refl
  wait_result Step wait.Create p = refl
  wait_result Try wait.Access p = refl
  wait_result Try wait.Data p = refl
  wait_result Try wait.Create p = refl

  course_result_lem : (d : Decision) → decision_result a free room d ≡ course_result a free room (get_or (decision_psws pt free d psw) pt 0) (course_of d)
  unfolding decision_result course_result decision_psws course_of
  course_result_lem (decision.Waits w) = wait_result a w _
  course_result_lem (decision.Traps k p) = trap_result k p _ (get_or-set_same psw pt p 0 here)
  course_result_lem (decision.Executes e) = fate_result_lem e.fate

  pub performs_acts : (row : Row) (d : Decision) (c : Course) (psw' : List ℕ) (m m' n n' : Memory) → Performs row d pt free c psw psw' m m' n n'
      → Acts a row (Some d) pt free room (course_result a free room (get_or psw' pt 0) c) psw psw' m m' n n'
  unfolding result_of psws_after registers_written data_written
  performs_acts row d c psw' m m' n n' p = record {
    ends = rw (p.psws, p.course) (sym (course_result_lem d));
    psws = p.psws;
    registers = p.registers;
    data_words = p.data_words;
  }
