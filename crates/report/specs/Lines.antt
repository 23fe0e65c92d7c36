-- The line of a task in the output of the batch program.
use Rattle.std.specs.Prelude.{ℕ, ◌≤◌, ◌≡◌, List, ◌++◌, length, Option, None, Some}
use Rattle.window.specs.declared.Row.{Row}
use Rattle.step.specs.declared.ProcessTable.{ProcessTable}
use Rattle.step.specs.State.{find_row}
use Rattle.run.specs.Run.{Tally, own_counts, Ran}
use Rattle.image.specs.Codec.{accepted}
use Rattle.report.specs.Report.{row_line, row_lines, schedule_codec, most_input}

-- an input of the batch program: a schedule, and then the bytes of an image
pub record WholeInput (input schedule bytes : List ℕ) : Type 0 where
  pub short : length input ≤ most_input
  pub read : schedule_codec.dec input ≡ accepted schedule bytes

unfoldable pub line_of : ProcessTable → Tally → Option Row → Option (List ℕ)
line_of table n None = None
line_of table n (Some r) = Some (row_line table r (own_counts r.task n))

-- the line of task t in the report of a run; none where it isn't listed
unfoldable pub task_line : ℕ → Ran → Option (List ℕ)
task_line t x = line_of x.state.table x.notes (find_row t x.state.rows)

-- a line stands in an output, behind the lines of the rows before its own
pub record StandsIn (x : Ran) (line output : List ℕ) : Type 0 where
  pub before : List Row
  pub rest : List ℕ
  pub is : output ≡ row_lines x.state.table x.notes before ++ (line ++ rest)

-- where a run has a line of task t, it stands in the output
abbrev pub Printed : ℕ → Ran → (output : List ℕ) → Type 0
Printed t x output = (line : List ℕ) → task_line t x ≡ Some line → StandsIn x line output
