-- The parts of a step or a try make it.
use Rattle.std.specs.Prelude.{◌≡◌, ◌≢◌, Bool, ℕ, get_or}
use Rattle.std.proofs.Math.Path.{refl, ap}
use Rattle.std.proofs.Common.{sym, ◌∙◌, subst, eq-eqb, Option, Some, None}
use Rattle.std.proofs.Math.Bool.{true, false, cond}
use mathlib.Core.List.{List}
use Rattle.window.specs.declared.Row.{Row}
use Rattle.window.specs.Windows.{register_window, data_word_window}
use Rattle.window.specs.Memories.{Memory, written, stored_all}
use Rattle.operation.specs.declared.Fate.{Fate}
use Rattle.operation.specs.declared.Fate.TheVariants.{Continues, Quits, Creates}
use Rattle.operation.specs.declared.Decision.{Decision}
use Rattle.operation.specs.declared.Decision.TheVariants.{Waits, Traps, Executes}
use Rattle.operation.specs.Decide.{decide}
use Rattle.operation.specs.declared.Wait.{Wait}
use Rattle.operation.specs.declared.Wait.TheVariants.{Access, Data, Create}
use Rattle.step.specs.declared.Attempt.{Attempt}
use Rattle.step.specs.declared.Attempt.TheVariants.{Step, Try}
use Rattle.step.specs.declared.Queue.{Queue}
use Rattle.step.specs.declared.Processes.{Processes}
use Rattle.step.specs.declared.Ending.{Ending}
use Rattle.step.specs.declared.Ending.TheVariants as ending
use Rattle.step.specs.declared.StepResult.{StepResult}
use Rattle.step.specs.Queues.{acting_number, below_total, list_of, head_of, lowest_free}
use Rattle.step.specs.State.{State, state, find_row, put_row, acting_queue, psws_of, processes_acting, environment}
use Rattle.step.specs.Act.{register_writes, data_writes, with_counts, executed_queues, waved_queues, actor_psws, Change, Stepped, change_of, fate_in, created_in, fault_in, created_psws, act}
use Rattle.step.specs.Step.{no_trap, head_decides, row_decides, acted, attempt_row, attempt_by}
use Rattle.step.specs.Code.Parts.{decided_as, fate_creates, creates, fate_result, decision_result, result_of, fate_psws, decision_psws, psws_after, registers_written, data_written, other_number, executed_motion, created_motion, waved_motion, moved_queues, flag_after, row_after, Acts}
use Rattle.step.proofs.Laws.Occurrences.{Heads}
use Rattle.step.proofs.Laws.Queues.{heads}
use Rattle.step.proofs.Laws.Rows.{put_same, find_task}

-- what is decided where the task has not trapped and has a process
pub head_decides_lem : (s : State) (r : Row) (psw : List ℕ) (q : Queue) (head word : ℕ) (d : Decision) → r.kind ≡ no_trap → q.len ≢ 0
    → head ≡ head_of q → word ≡ get_or psw head 0 → d ≡ decide (environment s r word) → Some d ≡ decided_as (row_decides decide s r (psws_of psw (list_of q)))
unfolding row_decides head_decides decided_as psws_of
head_decides_lem s r psw q head word d k n p w e =
    let h : Heads (head_of q) (list_of q) = heads q n in
    simp (eq-eqb r.kind no_trap k, h.is, e, w, p)

-- what a result changes besides the two memories
abbrev changed : Processes → Attempt → Row → StepResult → (psw : List ℕ) → Change
changed table a r x psw = record {
  row = row_after x.ending r;
  table = with_counts psw (moved_queues x.motion a r.task table.queues) (flag_after x.motion table.flag);
  ending = x.ending;
}

module _ (table : Processes) (r : Row) (free : ℕ) (below : Bool) where
  fate_parts : (a : Attempt) (f : Fate) → (fate_creates f ≡ true → free ≡ lowest_free table.queues) → (fate_creates f ≡ true → below ≡ below_total table.count)
      → fate_in table a r f ≡ changed table a r (fate_result a free below f) (fate_psws (head_of (acting_queue table a r.task)) free f table.psw)
  unfolding fate_in fate_creates fate_result fate_psws actor_psws created_in created_psws fault_in row_after moved_queues flag_after executed_motion created_motion executed_queues acting_number other_number
  fate_parts Step (Continues p) g h = refl
  fate_parts Try (Continues p) g h = refl
  fate_parts a Quits g h = refl
  fate_parts a (Creates p new) g h = rw (g refl, h refl) (go a (below_total table.count))
    where
      go : (a : Attempt) (b : Bool) → cond b (created_in table a r p new) (fault_in table a r p new)
          ≡ changed table a r (fate_result a (lowest_free table.queues) b (Creates p new)) (created_psws table a r.task p new)
      go Step true = refl
      go Try true = refl
      go a false = refl

  change_parts : (a : Attempt) (d : Decision) → (creates (decided_as (Some d)) ≡ true → free ≡ lowest_free table.queues)
      → (creates (decided_as (Some d)) ≡ true → below ≡ below_total table.count)
      → change_of table a r d ≡ changed table a r (decision_result a free below d) (decision_psws (head_of (acting_queue table a r.task)) free d table.psw)
  unfolding change_of creates decided_as decision_result decision_psws actor_psws row_after moved_queues flag_after waved_motion waved_queues acting_number other_number
  change_parts a (Waits w) g h = waits a w
    where
      waits : (a : Attempt) (w : Wait) → change_of table a r (Waits w) ≡ changed table a r (decision_result a free below (Waits w)) table.psw
      waits Step Access = refl
      waits Step Data = refl
      waits Step Create = refl
      waits Try w = refl
  change_parts a (Traps k p) g h = refl
  change_parts a (Executes e) g h = fate_parts a e.fate g h

abbrev after : State → List Row → Processes → (registers data_words : Memory) → Ending → Stepped
after s rows table registers data_words e = record { state = state rows (record { users = table }) s.constants registers s.program data_words; ending = e }

-- the state that a step or a try of the task with row r leaves, and its ending, from the parts
unfoldable stepped_by : State → Attempt → Row → StepResult → (psw : List ℕ) → (registers data_words : Memory) → Stepped
stepped_by s a r x psw registers data_words =
    let c : Change = changed s.table.users a r x psw in after s (put_row r.task c.row s.rows) c.table registers data_words c.ending

module _ (s : State) (a : Attempt) (r : Row) (head free : ℕ) (below : Bool) (x : StepResult) (psw : List ℕ) (m n : Memory)
    (stands : put_row r.task r s.rows ≡ s.rows) (heads : head ≡ head_of (acting_queue s.table.users a r.task))
    (counted : s.table.users ≡ with_counts s.table.users.psw s.table.users.queues s.table.users.flag) where
  acted_parts : (o : Option Decision) → (creates (decided_as o) ≡ true → free ≡ lowest_free s.table.users.queues)
      → (creates (decided_as o) ≡ true → below ≡ below_total s.table.users.count)
      → Acts a r (decided_as o) head free below x s.table.users.psw psw s.registers m s.data_words n
      → acted decide s a r o ≡ stepped_by s a r x psw m n
  unfolding acted act stepped_by decided_as result_of psws_after registers_written data_written written stored_all row_after moved_queues flag_after
  acted_parts None g h z =
      rw (z.ends, z.psws, z.registers, z.data_words)
      (ap (λ (t : Processes). after s s.rows t s.registers s.data_words ending.Idle) counted
      ∙ ap (λ (rs : List Row). after s rs (with_counts s.table.users.psw s.table.users.queues s.table.users.flag) s.registers s.data_words ending.Idle)
      (sym stands))
  acted_parts (Some d) g h z =
      rw (z.ends, z.psws, z.registers, z.data_words, heads)
      (ap
      (λ (c : Change). after s (put_row r.task c.row s.rows) c.table
      (written (register_window r) (register_writes d) s.registers)
      (written (data_word_window r) (data_writes d) s.data_words)
      c.ending)
      (change_parts s.table.users r free below a d g h))

-- the parts that a step or a try of task t makes, one after another
pub record Parts (a : Attempt) (t : ℕ) (s : State) (r : Row) (d : Option Decision) (x : StepResult) (psw : List ℕ) (m n : Memory) : Type 0 where
  pub head : ℕ
  pub free : ℕ
  pub below : Bool
  pub row : find_row t s.rows ≡ Some r
  pub counted : s.table.users ≡ with_counts s.table.users.psw s.table.users.queues s.table.users.flag
  pub decides : d ≡ decided_as (row_decides decide s r (processes_acting s.table.users a t))
  pub heads : head ≡ head_of (acting_queue s.table.users a t)
  pub lowest : creates d ≡ true → free ≡ lowest_free s.table.users.queues
  pub places : creates d ≡ true → below ≡ below_total s.table.users.count
  pub acts : Acts a r d head free below x s.table.users.psw psw s.registers m s.data_words n

attempt_parts : (a : Attempt) (t : ℕ) (s : State) (r : Row) (d : Option Decision) (x : StepResult) (psw : List ℕ) (m n : Memory) → Parts a t s r d x psw m n
    → attempt_by decide a t s ≡ stepped_by s a r x psw m n
unfolding attempt_by attempt_row
attempt_parts a t s r d x psw m n p =
    let e : t ≡ r.task = sym (find_task t s.rows r p.row) in
    rw p.row
    (acted_parts s a r p.head p.free p.below x psw m n
    (subst (λ (u : ℕ). put_row u r s.rows ≡ s.rows) e (put_same t s.rows r p.row))
    (subst (λ (u : ℕ). p.head ≡ head_of (acting_queue s.table.users a u)) e p.heads) p.counted
    (row_decides decide s r (processes_acting s.table.users a t))
    (subst (λ (d : Option Decision). creates d ≡ true → p.free ≡ lowest_free s.table.users.queues) p.decides p.lowest)
    (subst (λ (d : Option Decision). creates d ≡ true → p.below ≡ below_total s.table.users.count) p.decides p.places)
    (subst (λ (d : Option Decision). Acts a r d p.head p.free p.below x s.table.users.psw psw s.registers m s.data_words n) p.decides p.acts))

-- with what a run holds after it: the row, the queues and the flag, each left as it is where it does not change
pub attempt_made : (a : Attempt) (t : ℕ) (s : State) (r r' : Row) (d : Option Decision) (x : StepResult) (psw : List ℕ) (m n : Memory) (queues : List Queue) (flag : ℕ)
    → Parts a t s r d x psw m n
    → r' ≡ row_after x.ending r
    → queues ≡ moved_queues x.motion a t s.table.users.queues
    → flag ≡ flag_after x.motion s.table.users.flag
    → attempt_by decide a t s ≡ after s (put_row t r' s.rows) (with_counts psw queues flag) m n x.ending
unfolding stepped_by
attempt_made a t s r r' d x psw m n queues flag p e f g =
    let k : t ≡ r.task = sym (find_task t s.rows r p.row) in
    attempt_parts a t s r d x psw m n p ∙ rw (e, f, g, k)
