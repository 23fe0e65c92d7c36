-- The state of a run in numbers, and one attempt of it.
use Rattle.std.specs.Prelude.{◌≡◌, true, List, ℕ, suc, length, take, Some}
use Rattle.window.specs.declared.Row.{Row}
use Rattle.window.specs.Memories.{Memory}
use Rattle.operation.specs.Decide.{decide}
use Rattle.step.specs.declared.Attempt.{Attempt}
use Rattle.step.specs.declared.Ending.{Ending}
use Rattle.step.specs.Queues.{pt_count, live_total}
use Rattle.step.specs.State.{State, state, find_row}
use Rattle.step.specs.Act.{table_of}
use Rattle.step.specs.Step.{attempt_by}
use Rattle.step.specs.Soundness.{sound}
use Rattle.run_rings.specs.Code.Mask.{free_word}
use Rattle.run_rings.specs.Code.Records.{rows_in}
use Rattle.run_rings.specs.Code.Spans.{Windows}
use Rattle.run_next.specs.Code.Settled.{Lines, queues_of}

-- the memories
pub record Cells : Type 0 where
  pub constants : Memory
  pub registers : Memory
  pub program : List ℕ
  pub data_words : Memory

abbrev pub cells : (constants registers : Memory) → (program : List ℕ) → (data_words : Memory) → Cells
cells c r p d = record { constants = c; registers = r; program = p; data_words = d }

-- the state of these rows, with the trap records, queues and PSWs of the numbers
unfoldable pub state_from : List Row → Lines → Cells → State
state_from rows x m =
    state (rows_in x.kinds x.stored rows) (table_of (take pt_count x.psws) (queues_of x) x.flag) m.constants m.registers m.program m.data_words

-- the numbers of a sound state
pub record Numbers (rows : List Row) (spans : List ℕ) (x : Lines) (m : Cells) : Type 0 where
  pub windows : (t : ℕ) (r : Row) → find_row t rows ≡ Some r → Windows spans t r
  pub frees : x.free ≡ free_word (queues_of x)
  pub counted : x.count ≡ live_total (queues_of x)
  pub wide : length x.psws ≡ suc pt_count
  pub sound : sound (state_from rows x m) ≡ true

-- an attempt of task t from the state of the numbers to that of the numbers behind it
pub record Attempted (a : Attempt) (t : ℕ) (e : Ending) (rows : List Row) (spans : List ℕ) (x : Lines) (m : Cells) (y : Lines) (n : Cells) : Type 0 where
  pub attempt : attempt_by decide a t (state_from rows x m) ≡ record { state = state_from rows y n; ending = e }
  pub numbers : Numbers rows spans y n
