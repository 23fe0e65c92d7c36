-- All that a step may read, inside the task's own windows.
use Rattle.std.specs.Prelude.{ℕ, List}
use Rattle.window.specs.declared.Row.{Row}
use Rattle.window.specs.declared.Cell.{Cell}
use Rattle.window.specs.Windows.{register_window, program_window, data_word_window}
use Rattle.window.specs.Memories.{Memory, seen, cell_in}
use Rattle.operand.specs.declared.Operand.{Operand}
use Rattle.operand.specs.Access.{visible_cell}
use Rattle.operation.specs.declared.Trap.{Trap}
use Rattle.operation.specs.declared.Trap.TheVariants.{CreateFault, IllegalInstruction, ProtectionViolation, PrivilegedInstruction, SupervisorCall, SimulatedInstruction, DataException}

-- the task's row, the PSW of its head process, the create fault flag, and by real address the program words, the registers and
-- constants, and the data words
pub record Environment : Type 0 where
  pub row : Row
  pub psw : ℕ
  pub flag : ℕ
  pub program_word : ℕ → ℕ
  pub cell : Operand → Cell
  pub datum : ℕ → Cell

-- what the memories show of themselves through the windows of a row
unfoldable pub environment_of : Row → (psw flag : ℕ) → (program : List ℕ) → (constants registers data_words : Memory) → Environment
environment_of r psw flag program constants registers data_words = record {
  row = r;
  psw = psw;
  flag = flag;
  program_word = λ a. seen (program_window r) program a;
  cell = λ o. visible_cell (register_window r) registers constants o;
  datum = λ a. cell_in (data_word_window r) data_words a;
}

-- the trap kinds
unfoldable pub kind_of : Trap → ℕ
kind_of CreateFault = 0x00
kind_of IllegalInstruction = 0x12
kind_of ProtectionViolation = 0x14
kind_of PrivilegedInstruction = 0x16
kind_of SupervisorCall = 0x1A
kind_of SimulatedInstruction = 0x1C
kind_of DataException = 0x1E
