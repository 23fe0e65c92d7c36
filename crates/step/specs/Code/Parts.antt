-- A step or a try in the parts that code makes one after another: what is decided, how it ends, and what becomes of the queues, the PSWs, the row
-- and the flag. `free` is the lowest free PT, and `below` says that one process more is fewer than the total; only a create looks at them.
-- Document 01 has none of these parts: it names steps and tries alone, and law attempt_made (Laws/Parts) says that together they are one.
use Rattle.std.specs.Prelude.{ℕ, ◌≡◌, Bool, true, false, cond, List, [], set, Option, Some, None}
use Rattle.window.specs.declared.Cell.{Cell}
use Rattle.window.specs.declared.Row.{Row}
use Rattle.window.specs.Windows.{register_window, data_word_window}
use Rattle.window.specs.Memories.{Memory, written}
use Rattle.operation.specs.declared.Trap.TheVariants.{CreateFault}
use Rattle.operation.specs.declared.Fate.{Fate}
use Rattle.operation.specs.declared.Fate.TheVariants.{Continues, Quits, Creates}
use Rattle.operation.specs.declared.Decision.{Decision}
use Rattle.operation.specs.declared.Decision.TheVariants.{Waits, Traps, Executes}
use Rattle.operation.specs.declared.Wait.{Wait}
use Rattle.operation.specs.declared.Wait.TheVariants.{Access, Data, Create}
use Rattle.step.specs.declared.Attempt.{Attempt}
use Rattle.step.specs.declared.Attempt.TheVariants.{Step, Try}
use Rattle.step.specs.declared.Queue.{Queue}
use Rattle.step.specs.declared.Ending.{Ending}
use Rattle.step.specs.declared.Ending.TheVariants.{Executed, Waved, Trapped}
use Rattle.step.specs.declared.Ending.TheVariants as ending
use Rattle.step.specs.declared.Motion.{Motion}
use Rattle.step.specs.declared.Motion.TheVariants.{Stays, Turns, Leaves, Passes, TurnsAndJoins, PassesAndJoins, Joins}
use Rattle.step.specs.declared.StepResult.{StepResult}
use Rattle.step.specs.Queues.{own_number, sfu_number, acting_number}
use Rattle.step.specs.Act.{register_writes, data_writes, trapped_row, turned_at, left_at, joined_at, passed_to}

-- a decision, or none, as an answer
unfoldable pub decided_as : Option Decision → Option Decision
decided_as None = None
decided_as (Some d) = Some d

-- whether a process joins
unfoldable pub fate_creates : Fate → Bool
fate_creates (Continues p) = false
fate_creates Quits = false
fate_creates (Creates p new) = true

unfoldable pub creates : Option Decision → Bool
creates None = false
creates (Some (Waits w)) = false
creates (Some (Traps k p)) = false
creates (Some (Executes e)) = fate_creates e.fate

abbrev pub result : Ending → Motion → StepResult
result e m = record { ending = e; motion = m }

-- what becomes of the queues where the process has executed, has created another, and where it waits
unfoldable pub executed_motion : Attempt → Motion
executed_motion Step = Turns
executed_motion Try = Passes

unfoldable pub created_motion : Attempt → (free : ℕ) → Motion
created_motion Step free = TurnsAndJoins free
created_motion Try free = PassesAndJoins free

unfoldable pub waved_motion : Attempt → Wait → Motion
waved_motion Step Access = Turns
waved_motion Step Data = Passes
waved_motion Step Create = Turns
waved_motion Try w = Turns

-- how it ends, and what becomes of the queues
unfoldable pub fate_result : Attempt → (free : ℕ) → (below : Bool) → Fate → StepResult
fate_result a free below (Continues p) = result Executed (executed_motion a)
fate_result a free below Quits = result Executed Leaves
fate_result a free below (Creates p new) = cond below (result Executed (created_motion a free)) (result (Trapped CreateFault p) (Joins free))

unfoldable pub decision_result : Attempt → (free : ℕ) → (below : Bool) → Decision → StepResult
decision_result a free below (Waits w) = result Waved (waved_motion a w)
decision_result a free below (Traps k p) = result (Trapped k p) Stays
decision_result a free below (Executes e) = fate_result a free below e.fate

unfoldable pub result_of : Attempt → (free : ℕ) → (below : Bool) → Option Decision → StepResult
result_of a free below None = result ending.Idle Stays
result_of a free below (Some d) = decision_result a free below d

-- the PSWs, the head process having the PT head
unfoldable pub fate_psws : (head free : ℕ) → Fate → List ℕ → List ℕ
fate_psws head free (Continues p) psw = set psw head p
fate_psws head free Quits psw = psw
fate_psws head free (Creates p new) psw = set (set psw head p) free new

unfoldable pub decision_psws : (head free : ℕ) → Decision → List ℕ → List ℕ
decision_psws head free (Waits w) psw = psw
decision_psws head free (Traps k p) psw = set psw head p
decision_psws head free (Executes e) psw = fate_psws head free e.fate psw

unfoldable pub psws_after : (head free : ℕ) → Option Decision → List ℕ → List ℕ
psws_after head free None psw = psw
psws_after head free (Some d) psw = decision_psws head free d psw

-- the writes to registers and data words
unfoldable pub registers_written : Option Decision → List (Option (ℕ × Cell))
registers_written None = []
registers_written (Some d) = register_writes d

unfoldable pub data_written : Option Decision → List (Option (ℕ × Cell))
data_written None = []
data_written (Some d) = data_writes d

-- the queue that is not the one whose head acts
unfoldable pub other_number : Attempt → (t : ℕ) → ℕ
other_number Step t = sfu_number t
other_number Try t = own_number t

-- the queues
unfoldable pub moved_queues : Motion → Attempt → (t : ℕ) → List Queue → List Queue
moved_queues Stays a t qs = qs
moved_queues Turns a t qs = turned_at qs (acting_number a t)
moved_queues Leaves a t qs = left_at qs (acting_number a t)
moved_queues Passes a t qs = passed_to qs (acting_number a t) (other_number a t)
moved_queues (TurnsAndJoins p) a t qs = joined_at (turned_at qs (acting_number a t)) (own_number t) p
moved_queues (PassesAndJoins p) a t qs = joined_at (passed_to qs (acting_number a t) (other_number a t)) (own_number t) p
moved_queues (Joins p) a t qs = joined_at qs (own_number t) p

-- the flag: the create that makes the last process raises it
unfoldable pub flag_after : Motion → (flag : ℕ) → ℕ
flag_after Stays flag = flag
flag_after Turns flag = flag
flag_after Leaves flag = flag
flag_after Passes flag = flag
flag_after (TurnsAndJoins p) flag = flag
flag_after (PassesAndJoins p) flag = flag
flag_after (Joins p) flag = 1

-- the row: only a trap changes it
unfoldable pub row_after : Ending → Row → Row
row_after Executed r = r
row_after Waved r = r
row_after (Trapped k p) r = trapped_row r k p
row_after ending.Idle r = r

-- what is done about what is decided: the result, and every cell of the PSWs, the registers m and the data words n, before and after
pub record Acts (a : Attempt) (r : Row) (d : Option Decision) (head free : ℕ) (below : Bool) (x : StepResult) (psw psw' : List ℕ) (m m' n n' : Memory) : Type 0 where
  pub ends : x ≡ result_of a free below d
  pub psws : psw' ≡ psws_after head free d psw
  pub registers : m' ≡ written (register_window r) (registers_written d) m
  pub data_words : n' ≡ written (data_word_window r) (data_written d) n
