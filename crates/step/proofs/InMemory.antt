-- In a sound state every real address inside a window lies in its memory: what refusal 5 is for.
use Rattle.std.proofs.Common.{Some}
use Rattle.std.specs.Prelude.{◌≡◌, true, ◌&&◌, ℕ, ◌<◌, length}
use Rattle.word.proofs.Laws.Bools.{and_left, and_right}
use Rattle.window.specs.declared.Row.{Row}
use Rattle.window.specs.Windows.{inside, register_window, program_window, data_word_window}
use Rattle.step.specs.State.{State, find_row}
use Rattle.step.specs.Soundness.{ends_in, row_ends_in, sound}
use Rattle.step.proofs.Laws.Sound.{sound_parts}
use Rattle.step.proofs.Laws.InMemory.{ends_at, row_ends}

-- of the row r, by real address
pub record InMemory (s : State) (r : Row) : Type 0 where
  pub registers : (a : ℕ) → inside (register_window r) a ≡ true → a < length s.registers.words
  pub program : (a : ℕ) → inside (program_window r) a ≡ true → a < length s.program
  pub data_words : (a : ℕ) → inside (data_word_window r) a ≡ true → a < length s.data_words.words

pub windows_in_memory : (s : State) (t : ℕ) (r : Row) → sound s ≡ true → find_row t s.rows ≡ Some r → InMemory s r
unfolding row_ends_in
windows_in_memory s t r e f =
    let nr = length s.registers.words in
    let np = length s.program in
    let nd = length s.data_words.words in
    let z : row_ends_in nr np nd r ≡ true = row_ends nr np nd t s.rows r (sound_parts s e).windows f in
    let right = and_right (ends_in (register_window r) nr) (ends_in (program_window r) np && ends_in (data_word_window r) nd) z in
    record {
      registers = ends_at (register_window r) nr (and_left (ends_in (register_window r) nr) (ends_in (program_window r) np && ends_in (data_word_window r) nd) z);
      program = ends_at (program_window r) np (and_left (ends_in (program_window r) np) (ends_in (data_word_window r) nd) right);
      data_words = ends_at (data_word_window r) nd (and_right (ends_in (program_window r) np) (ends_in (data_word_window r) nd) right);
    }
