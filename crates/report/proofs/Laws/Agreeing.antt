-- How two states are seen to agree on a task whose row is known.
use Rattle.std.specs.Prelude.{◌≡◌, Bool, true, List, [], ◌∷◌, ℕ, ltb}
use Rattle.std.proofs.Common.{sym, ◌∙◌, subst, ltb-true, Some}
use Rattle.word.proofs.Laws.Bools.{and_left, and_right}
use Rattle.window.specs.declared.Row.{Row}
use Rattle.window.specs.Windows.{register_window, program_window, data_word_window}
use Rattle.step.specs.State.{State, find_row}
use Rattle.step.specs.Owned.{own}
use Rattle.step.specs.Soundness.{every}
use Rattle.step.proofs.Laws.Rows.{some_inj}
use Rattle.run.specs.Compared.{Compared, SameProgram, cut, memory_in}
use Rattle.image.specs.Codec.{Bytes}

-- what is compared of a task, at its row
pub compared_at : (t : ℕ) (s s' : State) (r : Row) → find_row t s.rows ≡ Some r → own t s ≡ own t s'
    → memory_in (register_window r) s.registers ≡ memory_in (register_window r) s'.registers
    → memory_in (data_word_window r) s.data_words ≡ memory_in (data_word_window r) s'.data_words
    → Compared t s s'
compared_at t s s' r e o g d = record {
  owned = o;
  registers = λ x f. subst (λ (y : Row). memory_in (register_window y) s.registers ≡ memory_in (register_window y) s'.registers) (some_inj r x (sym e ∙ f)) g;
  data_words = λ x f. subst (λ (y : Row). memory_in (data_word_window y) s.data_words ≡ memory_in (data_word_window y) s'.data_words) (some_inj r x (sym e ∙ f)) d;
}

pub program_at : (t : ℕ) (s s' : State) (r : Row) → find_row t s.rows ≡ Some r
    → cut (program_window r) s.program ≡ cut (program_window r) s'.program → SameProgram t s s'
program_at t s s' r e p x f = subst (λ (y : Row). cut (program_window y) s.program ≡ cut (program_window y) s'.program) (some_inj r x (sym e ∙ f)) p

abbrev byte : ℕ → Bool
byte x = ltb x 256

pub bytes_of : (b : List ℕ) → every byte b ≡ true → Bytes b
unfolding every Bytes
bytes_of [] e = tt
bytes_of (x ∷ b) e = (ltb-true x 256 (and_left (byte x) (every byte b) e), bytes_of b (and_right (byte x) (every byte b) e))
