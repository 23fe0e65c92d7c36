-- The buffers and the sizes of the calls for other languages: the memories are lent, rows and process table are the call's own.
use Rattle.std.specs.Prelude.{ℕ, Bool, true, false, List, Result, Ok, Err}
use Rattle.library.specs.declared.Sizes.{Sizes}
use Rattle.library.specs.Buffers.{Buffers}
use Rattle.library.specs.Held.{lent_buffers}
use Rattle.library.specs.Empty.{no_rows, no_processes}
use Rattle.refusal.specs.declared.Refusal.{Refusal}

-- whether an image was read
unfoldable pub is_read : Result Sizes Refusal → Bool
is_read (Err e) = false
is_read (Ok n) = true

-- the lent memories beside seven rows of no task and no processes
unfoldable pub memories_in : (constant_tags constant_words register_tags register_words program data_tags data_words : List ℕ) → Buffers
memories_in = lent_buffers no_rows no_processes

-- the sizes of a state without rows whose memories have these lengths
unfoldable pub memory_sizes : (constants registers program data_words : ℕ) → Sizes
memory_sizes constants registers program data_words = record {
  rows = 0;
  constants = constants;
  registers = registers;
  program = program;
  data_words = data_words;
}
