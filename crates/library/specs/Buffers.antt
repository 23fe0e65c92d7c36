-- A state as the library's callers hold it: lent buffers, and the sizes of the fields that lie in them.
use Rattle.std.specs.Prelude.{ℕ, Bool, ◌&&◌, List, leb, length, take, drop}
use Rattle.window.specs.declared.Row.{Row}
use Rattle.window.specs.Memories.{memory}
use Rattle.step.specs.declared.ProcessTable.{ProcessTable}
use Rattle.step.specs.State.{State}
use Rattle.image.specs.Fields.{over}
use Rattle.library.specs.declared.Sizes.{Sizes}

-- the buffers; constants, registers and data words have one for tags and one for words. The process table has a fixed size
pub record Buffers : Type 0 where
  pub rows : List Row
  pub table : ProcessTable
  pub constant_tags : List ℕ
  pub constant_words : List ℕ
  pub register_tags : List ℕ
  pub register_words : List ℕ
  pub program : List ℕ
  pub data_tags : List ℕ
  pub data_words : List ℕ

-- the lengths of the buffers
pub record Room : Type 0 where
  pub rows : ℕ
  pub constant_tags : ℕ
  pub constant_words : ℕ
  pub register_tags : ℕ
  pub register_words : ℕ
  pub program : ℕ
  pub data_tags : ℕ
  pub data_words : ℕ

unfoldable pub room_of : Buffers → Room
room_of b = record {
  rows = length b.rows;
  constant_tags = length b.constant_tags;
  constant_words = length b.constant_words;
  register_tags = length b.register_tags;
  register_words = length b.register_words;
  program = length b.program;
  data_tags = length b.data_tags;
  data_words = length b.data_words;
}

-- no size is above its buffer
unfoldable pub fits : Sizes → Room → Bool
fits n room =
    leb n.rows room.rows
    && (leb n.constants room.constant_tags
    && (leb n.constants room.constant_words
    && (leb n.registers room.register_tags
    && (leb n.registers room.register_words
    && (leb n.program room.program
    && (leb n.data_words room.data_tags && leb n.data_words room.data_words))))))

-- the sizes of a state's fields
unfoldable pub sizes_of : State → Sizes
sizes_of s = record {
  rows = length s.rows;
  constants = length s.constants.words;
  registers = length s.registers.words;
  program = length s.program;
  data_words = length s.data_words.words;
}

-- a state is the fields of its image: the first places of each buffer, as many as its size says
unfoldable pub fields_in : Sizes → Buffers → State
fields_in n b = record {
  rows = take n.rows b.rows;
  table = b.table;
  constants = memory (take n.constants b.constant_tags) (take n.constants b.constant_words);
  registers = memory (take n.registers b.register_tags) (take n.registers b.register_words);
  program = take n.program b.program;
  data_words = memory (take n.data_words b.data_tags) (take n.data_words b.data_words);
}

-- what lies beyond the fields
pub record Spare : Type 0 where
  pub rows : List Row
  pub constant_tags : List ℕ
  pub constant_words : List ℕ
  pub register_tags : List ℕ
  pub register_words : List ℕ
  pub program : List ℕ
  pub data_tags : List ℕ
  pub data_words : List ℕ

unfoldable pub spare_in : Sizes → Buffers → Spare
spare_in n b = record {
  rows = drop n.rows b.rows;
  constant_tags = drop n.constants b.constant_tags;
  constant_words = drop n.constants b.constant_words;
  register_tags = drop n.registers b.register_tags;
  register_words = drop n.registers b.register_words;
  program = drop n.program b.program;
  data_tags = drop n.data_words b.data_tags;
  data_words = drop n.data_words b.data_words;
}

-- the buffers with a state's fields in their first places
unfoldable pub holding : State → Buffers → Buffers
holding s b = record {
  rows = over s.rows b.rows;
  table = s.table;
  constant_tags = over s.constants.tags b.constant_tags;
  constant_words = over s.constants.words b.constant_words;
  register_tags = over s.registers.tags b.register_tags;
  register_words = over s.registers.words b.register_words;
  program = over s.program b.program;
  data_tags = over s.data_words.tags b.data_tags;
  data_words = over s.data_words.words b.data_words;
}
