-- What demand 3 compares of a task, and when a task's windows meet no other task's.
use Rattle.std.specs.Prelude.{◌≡◌, ◌≢◌, false, List, ℕ, suc, Some}
use Rattle.std.proofs.Math.Seq.{slice}
use Rattle.window.specs.declared.Row.{Row}
use Rattle.window.specs.declared.Window.{Window}
use Rattle.window.specs.Windows.{meets, register_window, program_window, data_word_window}
use Rattle.window.specs.Memories.{Memory, memory, constant_at}
use Rattle.step.specs.State.{State, find_row}
use Rattle.step.specs.Owned.{own}

-- the places of a window, in their order
unfoldable pub cut : Window → List ℕ → List ℕ
cut w l = slice w.first (suc w.last) l

unfoldable pub memory_in : Window → Memory → Memory
memory_in w m = memory (cut w m.tags) (cut w m.words)

-- two states are equal on task t
pub record Compared (t : ℕ) (s s' : State) : Type 0 where
  -- both list it, or neither does: CB and windows, the trap record as kind and PSW, the processes as PSWs from head to tail, those in its
  -- queue and those in its SFU queue
  pub owned : own t s ≡ own t s'
  -- registers with word, state and quality, each at its place in the window
  pub registers : (r : Row) → find_row t s.rows ≡ Some r → memory_in (register_window r) s.registers ≡ memory_in (register_window r) s'.registers
  -- data words with word and state, each at its place in the window
  pub data_words : (r : Row) → find_row t s.rows ≡ Some r → memory_in (data_word_window r) s.data_words ≡ memory_in (data_word_window r) s'.data_words

-- the program words of task t are equal
abbrev pub SameProgram : ℕ → State → State → Type 0
SameProgram t s s' = (r : Row) → find_row t s.rows ≡ Some r → cut (program_window r) s.program ≡ cut (program_window r) s'.program

-- constant memory agrees if every real address reads the same
abbrev pub SameConstants : State → State → Type 0
SameConstants s s' = (a : ℕ) → constant_at s.constants a ≡ constant_at s'.constants a

-- no register window and no data window of task t meets one of task u
pub record Clear (t u : ℕ) (s : State) : Type 0 where
  pub registers : (r x : Row) → find_row t s.rows ≡ Some r → find_row u s.rows ≡ Some x → meets (register_window r) (register_window x) ≡ false
  pub data_words : (r x : Row) → find_row t s.rows ≡ Some r → find_row u s.rows ≡ Some x → meets (data_word_window r) (data_word_window x) ≡ false

-- the register and data windows of task t meet no other task's
abbrev pub Alone : ℕ → State → Type 0
Alone t s = (u : ℕ) → u ≢ t → Clear t u s
