-- The fields of an instruction at the operands that they name, read from the memories themselves.
use Rattle.std.specs.Prelude.{ℕ}
use Rattle.word.specs.declared.Instruction.{Instruction}
use Rattle.window.specs.declared.Cell.{Cell}
use Rattle.window.specs.Memories.{Memory}
use Rattle.operand.specs.declared.Role.{Role}
use Rattle.operand.specs.declared.Operand.{Operand}
use Rattle.operand.specs.Field.{access_of}
use Rattle.operand.specs.Code.Cells.{operand_cell}
use Rattle.operation.specs.declared.Roles.{Roles}
use Rattle.operation.specs.declared.FoundOperand.{FoundOperand}
use Rattle.operation.specs.declared.FoundOperands.{FoundOperands}

abbrev pub instruction : (code first second third : ℕ) → Instruction
instruction code first second third = record { code = code; first = first; second = second; third = third }

abbrev pub found_with : Role → (f : ℕ) → Operand → Cell → FoundOperand
found_with role f o c = record { role = role; access = access_of f; operand = o; cell = c }

unfoldable pub found_at : (registers constants : Memory) → Role → (f : ℕ) → Operand → FoundOperand
found_at registers constants role f o = found_with role f o (operand_cell registers constants o)

unfoldable pub all_found_at : (registers constants : Memory) → Roles → (first second third : ℕ) → (a b c : Operand) → FoundOperands
all_found_at registers constants r first second third a b c = record {
  first = found_at registers constants r.first first a;
  second = found_at registers constants r.second second b;
  third = found_at registers constants r.third third c;
}
