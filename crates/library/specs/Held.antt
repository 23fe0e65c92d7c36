-- Lent buffers and their lengths, as the library's definitions have them.
use Rattle.std.specs.Prelude.{ℕ, List}
use Rattle.window.specs.declared.Row.{Row}
use Rattle.step.specs.declared.ProcessTable.{ProcessTable}
use Rattle.library.specs.Buffers.{Buffers, Room}

abbrev pub lent_buffers : List Row → ProcessTable → (constant_tags constant_words register_tags register_words program data_tags data_words : List ℕ) → Buffers
lent_buffers rows table constant_tags constant_words register_tags register_words program data_tags data_words = record {
  rows = rows;
  table = table;
  constant_tags = constant_tags;
  constant_words = constant_words;
  register_tags = register_tags;
  register_words = register_words;
  program = program;
  data_tags = data_tags;
  data_words = data_words;
}

abbrev pub room_from : (rows constant_tags constant_words register_tags register_words program data_tags data_words : ℕ) → Room
room_from rows constant_tags constant_words register_tags register_words program data_tags data_words = record {
  rows = rows;
  constant_tags = constant_tags;
  constant_words = constant_words;
  register_tags = register_tags;
  register_words = register_words;
  program = program;
  data_tags = data_tags;
  data_words = data_words;
}
