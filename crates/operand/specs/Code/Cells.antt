-- The cell at an operand, whatever the window: code looks at a place that was found. It holds a constant as its word, full, and reads the
-- quality only where check 6 asks for it.
use Rattle.std.specs.Prelude.{ℕ, cond, List, get_or}
use Rattle.window.specs.declared.Cell.{Cell}
use Rattle.window.specs.Memories.{Memory, cell, cell_at, constant_at, full_register, quality_in}
use Rattle.operand.specs.declared.Operand.{Operand}
use Rattle.operand.specs.declared.Operand.TheVariants.{Register, Constant, Absent}
use Rattle.operand.specs.Field.{constant_of}

unfoldable pub operand_cell : (registers constants : Memory) → Operand → Cell
operand_cell registers constants (Register a) = cell_at registers a
operand_cell registers constants (Constant a) = constant_at constants a
operand_cell registers constants Absent = cell 0 0

-- what code holds of it
unfoldable pub held_cell : (registers : Memory) → (constant_words : List ℕ) → Operand → Cell
held_cell registers words (Register a) = cell_at registers a
held_cell registers words (Constant a) = cell full_register (get_or words a 0)
held_cell registers words Absent = cell 0 0

-- the tag of a source at a that is held with this one: of a constant its quality
unfoldable pub source_tag : (f a tag : ℕ) → (constant_tags : List ℕ) → ℕ
source_tag f a tag tags = cond (constant_of f) (quality_in (get_or tags a 0)) tag
