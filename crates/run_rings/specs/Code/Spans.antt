-- Windows in numbers by task, of task t eight from 8 t on: CB doubled, then first and end of the registers, of the program words and of the
-- data bytes.
use Rattle.std.specs.Prelude.{◌≡◌, List, [], ◌∷◌, ℕ, ◌+◌, ◌*◌, ◌%◌, ◌≤◌, ◌<◌, get_or, Some}
use Rattle.std.proofs.Math.Seq.{paste}
use Rattle.window.specs.declared.Row.{Row}
use Rattle.window.specs.declared.Window.{Window}
use Rattle.window.specs.Windows.{register_window, program_window, data_window}
use Rattle.window.specs.Code.Spans.{end_of, Span}
use Rattle.operand.specs.Code.Spans.{Spans}
use Rattle.step.specs.Queues.{numbers}
use Rattle.step.specs.State.{find_row}

-- the numbers of a task's windows, and of all tasks'
abbrev pub span_places : ℕ
span_places = 8

abbrev pub all_span_places : ℕ
all_span_places = numbers * span_places

-- the numbers of task t are the windows of this row
pub record Windows (spans : List ℕ) (t : ℕ) (r : Row) : Type 0 where
  pub registers : Spans r (get_or spans (8 * t) 0) (get_or spans (8 * t + 1) 0) (get_or spans (8 * t + 2) 0)
  pub program : Span (program_window r) (get_or spans (8 * t + 3) 0) (get_or spans (8 * t + 4) 0)
  pub bytes : Span (data_window r) (get_or spans (8 * t + 5) 0) (get_or spans (8 * t + 6) 0)

-- a window whose numbers fit in 32 bits
pub record Fits (w : Window) : Type 0 where
  pub first : w.first < 4294967296
  pub past : end_of w < 4294967296

pub record Narrow (r : Row) : Type 0 where
  pub registers : Fits (register_window r)
  pub program : Fits (program_window r)
  pub bytes : Fits (data_window r)

-- the low 32 bits
abbrev pub low : ℕ → ℕ
low x = x % 4294967296

-- the numbers of a row's windows
unfoldable pub window_numbers : Row → List ℕ
window_numbers r =
    r.cb * 2 ∷ low (register_window r).first ∷ low (end_of (register_window r)) ∷ low (program_window r).first ∷ low (end_of (program_window r)) ∷ low (data_window r).first ∷
    low (end_of (data_window r)) ∷ 0 ∷ []

-- the numbers with those of a row at task t
abbrev pub windows_laid : List ℕ → (t : ℕ) → Row → List ℕ
windows_laid l t r = paste l (span_places * t) (window_numbers r) span_places

-- what the numbers say of the row of task t
pub record Tells (kinds stored spans : List ℕ) (t : ℕ) (r : Row) : Type 0 where
  pub kind : get_or kinds t 0 ≡ r.kind
  pub psw : get_or stored t 0 ≡ r.psw
  pub windows : Windows spans t r

-- they say it of the rows of the tasks below m
pub record Told (rows : List Row) (kinds stored spans : List ℕ) (m : ℕ) : Type 0 where
  pub tells : (t : ℕ) (r : Row) → 1 ≤ t → t < m → find_row t rows ≡ Some r → Tells kinds stored spans t r
