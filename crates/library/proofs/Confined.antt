-- No item of one task changes any register or data word outside its windows, in the buffers of a caller.
use Rattle.std.specs.Prelude.{ℕ}
use Rattle.window.specs.Windows.{register_window, data_word_window}
use Rattle.window.specs.Memories.{Memory, memory}
use Rattle.step.proofs.Confined.{Outside, SameAt}
use Rattle.library.specs.declared.Sizes.{Sizes}
use Rattle.library.specs.Buffers.{Buffers, fields_in}
use Rattle.library.specs.Calls.{step_leaves}
use Rattle.library.proofs.Laws.Confined.{registers_kept, data_kept}

-- the buffers of registers, and those of data words
abbrev pub registers_of : Buffers → Memory
registers_of b = memory b.register_tags b.register_words

abbrev pub data_words_of : Buffers → Memory
data_words_of b = memory b.data_tags b.data_words

pub step_call_keeps_registers : (n : Sizes) (b : Buffers) (t a : ℕ) → Outside register_window t (fields_in n b) a
    → SameAt a (registers_of (step_leaves n b t)) (registers_of b)
step_call_keeps_registers n b t a h = registers_kept n b t a h

pub step_call_keeps_data : (n : Sizes) (b : Buffers) (t a : ℕ) → Outside data_word_window t (fields_in n b) a
    → SameAt a (data_words_of (step_leaves n b t)) (data_words_of b)
step_call_keeps_data n b t a h = data_kept n b t a h
