-- Operands by numbers once they are found: of each its address, the tag that code holds and its word before the step.
use Rattle.std.specs.Prelude.{ℕ, ◌≡◌, Bool, true, false, List}
use Rattle.window.specs.declared.Row.{Row}
use Rattle.window.specs.Windows.{inside, register_window}
use Rattle.window.specs.Memories.{Memory, memory, cell}
use Rattle.operand.specs.declared.Role.{Role}
use Rattle.operand.specs.declared.Role.TheVariants.{Unused, Free, Destination, Source}
use Rattle.operand.specs.declared.Operand.{Operand}
use Rattle.operand.specs.declared.Operand.TheVariants.{Register}
use Rattle.operand.specs.Field.{constant_of, access_of}
use Rattle.operand.specs.Access.{waits_of, masked_of}
use Rattle.operand.specs.Code.Cells.{operand_cell, held_cell, source_tag}
use Rattle.operand.specs.Code.Spans.{number_in, released}
use Rattle.operation_checks.specs.declared.FoundSource.{FoundSource}
use Rattle.operation_checks.specs.declared.FoundDestination.{FoundDestination}

-- a destination: the register d of the task
pub record Destined (row : Row) (o : Operand) (d : ℕ) : Type 0 where
  pub register : o ≡ Register d
  pub within : inside (register_window row) d ≡ true

-- a source at the address a, held with this tag and word: let go only where it is a register of the task, and full where it is a constant
pub record Sourced (row : Row) (tags words : List ℕ) (constants : Memory) (f : ℕ) (o : Operand) (a x s : ℕ) : Type 0 where
  pub register : access_of f ≡ 2 → o ≡ Register a
  pub within : access_of f ≡ 2 → inside (register_window row) a ≡ true
  pub full : constant_of f ≡ true → x ≡ 0
  pub holds : operand_cell (memory tags words) constants o ≡ cell (source_tag f a x constants.tags) s

-- an operand that was found
abbrev pub DestinationFound : (row : Row) (o : Operand) (d : FoundDestination) → Type 0
DestinationFound row o d = Destined row o d.place

abbrev pub SourceFound : (row : Row) (tags words : List ℕ) (constants : Memory) (o : Operand) (s : FoundSource) → Type 0
SourceFound row tags words constants o s = Sourced row tags words constants s.field o s.place s.tag s.word

-- what stands where a field leads
unfoldable pub destination_at : (f : ℕ) → Operand → FoundDestination
destination_at f o = record { field = f; place = number_in o }

unfoldable pub source_at : (registers : Memory) (constant_words : List ℕ) (f : ℕ) → Operand → FoundSource
source_at registers words f o = record {
  field = f;
  place = number_in o;
  tag = (held_cell registers words o).tag;
  word = (held_cell registers words o).word;
}

-- by role: the tag before the step, the access test, the mask, and the tags once the operand is let go
abbrev pub tag_in : Role → (f a tag : ℕ) → (constant_tags : List ℕ) → ℕ
tag_in Unused f a tag q = tag
tag_in Free f a tag q = tag
tag_in Destination f a tag q = tag
tag_in Source f a tag q = source_tag f a tag q

abbrev pub waits_in : Role → (ac tag : ℕ) → Bool
waits_in Unused ac tag = false
waits_in Free ac tag = false
waits_in Destination ac tag = waits_of Destination ac tag
waits_in Source ac tag = waits_of Source ac tag

abbrev pub masked_in : Role → (psw tag : ℕ) → Bool
masked_in Unused psw tag = false
masked_in Free psw tag = false
masked_in Destination psw tag = false
masked_in Source psw tag = masked_of Source psw tag

abbrev pub left_in : Role → (f a tag : ℕ) → List ℕ → List ℕ
left_in Unused f a tag l = l
left_in Free f a tag l = l
left_in Destination f a tag l = l
left_in Source f a tag l = released f a tag l
