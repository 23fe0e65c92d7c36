-- No item of one task changes any register or data word outside its windows.
use Rattle.std.proofs.Common.{Some, slice_get}
use Rattle.std.specs.Prelude.{◌≡◌, false, ℕ}
use Rattle.operation.specs.Decide.{decide}
use Rattle.window.specs.declared.Row.{Row}
use Rattle.window.specs.declared.Window.{Window}
use Rattle.window.specs.Windows.{inside, register_window, data_word_window}
use Rattle.window.specs.Memories.{Memory}
use Rattle.step.specs.State.{State, find_row}
use Rattle.step.specs.Step.{item}
use Rattle.step.proofs.Laws.Step.{register_tags, register_words, data_tags, data_values}
use Rattle.step.proofs.Laws.Item.{item_outside}

-- the real address a lies outside a window of task t; an unlisted task has no window
abbrev pub Outside : (Row → Window) → (t : ℕ) → State → (a : ℕ) → Type 0
Outside window t s a = (r : Row) → find_row t s.rows ≡ Some r → inside (window r) a ≡ false

-- the memories have the same tag and the same word at the real address a, or both end before it
pub record SameAt (a : ℕ) (m m' : Memory) : Type 0 where
  pub tag : slice_get m.tags a ≡ slice_get m'.tags a
  pub word : slice_get m.words a ≡ slice_get m'.words a

pub item_keeps_registers : (t : ℕ) (s : State) (a : ℕ) → Outside register_window t s a → SameAt a (item t s).state.registers s.registers
unfolding item
item_keeps_registers t s a h = record { tag = item_outside decide register_tags t s a h; word = item_outside decide register_words t s a h }

pub item_keeps_data : (t : ℕ) (s : State) (a : ℕ) → Outside data_word_window t s a → SameAt a (item t s).state.data_words s.data_words
unfolding item
item_keeps_data t s a h = record { tag = item_outside decide data_tags t s a h; word = item_outside decide data_values t s a h }
