-- What an operation that acts at once does about its decision: its course, and every cell of the PSWs, the registers m and the data words n.
-- pt is the PT of the process, fresh the one that a created process gets. Document 01 has no course: it names steps and tries alone, and law
-- performs_acts (Laws/Performs) says that what is performed is what `Acts` says of the decision.
use Rattle.std.specs.Prelude.{ℕ, ◌≡◌, Bool, cond, List}
use Rattle.window.specs.declared.Row.{Row}
use Rattle.window.specs.Windows.{register_window, data_word_window}
use Rattle.window.specs.Memories.{Memory, written}
use Rattle.operation.specs.declared.Trap.TheVariants as trap
use Rattle.operation.specs.declared.Wait.{Wait}
use Rattle.operation.specs.declared.Wait.TheVariants as wait
use Rattle.operation.specs.declared.Fate.{Fate}
use Rattle.operation.specs.declared.Fate.TheVariants as fate
use Rattle.operation.specs.declared.Decision.{Decision}
use Rattle.operation.specs.declared.Decision.TheVariants as decision
use Rattle.operation.specs.declared.Course.{Course}
use Rattle.operation.specs.declared.Course.TheVariants as go
unfoldable pub use Rattle.operation.specs.Code.Courses.{trap_course}
use Rattle.step.specs.declared.Attempt.{Attempt}
use Rattle.step.specs.declared.Ending.TheVariants.{Executed, Waved, Trapped}
use Rattle.step.specs.declared.Motion.TheVariants.{Stays, Turns, Leaves, Joins}
use Rattle.step.specs.declared.StepResult.{StepResult}
use Rattle.step.specs.Act.{register_writes, data_writes}
use Rattle.step.specs.Code.Parts.{result, decision_psws, executed_motion, created_motion, waved_motion}

unfoldable pub fate_course : Fate → Course
fate_course (fate.Continues p) = go.Continues
fate_course fate.Quits = go.Quits
fate_course (fate.Creates p new) = go.Creates

abbrev pub wait_course : Wait → Course
wait_course wait.Access = go.Waits
wait_course wait.Data = go.WaitsForData
wait_course wait.Create = go.Waits

unfoldable pub course_of : Decision → Course
course_of (decision.Waits w) = wait_course w
course_of (decision.Traps k p) = trap_course k
course_of (decision.Executes e) = fate_course e.fate

pub record Performs (row : Row) (d : Decision) (pt fresh : ℕ) (r : Course) (psw psw' : List ℕ) (m m' n n' : Memory) : Type 0 where
  pub course : r ≡ course_of d
  pub psws : psw' ≡ decision_psws pt fresh d psw
  pub registers : m' ≡ written (register_window row) (register_writes d) m
  pub data_words : n' ≡ written (data_word_window row) (data_writes d) n

-- how a step or a try ends by the course alone, p being the PSW that the process has after it
unfoldable pub course_result : Attempt → (free : ℕ) → (below : Bool) → (p : ℕ) → Course → StepResult
course_result a free below p go.Continues = result Executed (executed_motion a)
course_result a free below p go.Waits = result Waved Turns
course_result a free below p go.WaitsForData = result Waved (waved_motion a wait.Data)
course_result a free below p go.Quits = result Executed Leaves
course_result a free below p go.Creates = cond below (result Executed (created_motion a free)) (result (Trapped trap.CreateFault p) (Joins free))
course_result a free below p go.CreateFault = result (Trapped trap.CreateFault p) Stays
course_result a free below p go.IllegalInstruction = result (Trapped trap.IllegalInstruction p) Stays
course_result a free below p go.ProtectionViolation = result (Trapped trap.ProtectionViolation p) Stays
course_result a free below p go.PrivilegedInstruction = result (Trapped trap.PrivilegedInstruction p) Stays
course_result a free below p go.SupervisorCall = result (Trapped trap.SupervisorCall p) Stays
course_result a free below p go.SimulatedInstruction = result (Trapped trap.SimulatedInstruction p) Stays
course_result a free below p go.DataException = result (Trapped trap.DataException p) Stays
