use mathlib.Core.Path.{refl}
use Rattle.operand.specs.Field.{illegal_field, lookup_of}
use Rattle.operation.specs.Roles.{illegal_access, illegal_fields, illegal_instruction}
use Rattle.operation.specs.Environment.{environment_of}
use Rattle.operation.proofs.Laws.Found.{told}
use Rattle.operation_checks.specs.Laws.Listed.{listed_illegal, listed_found}
use Rattle.step.specs.Code.Performs.{fate_course}
use Rattle.operation_control.specs.Laws.Performed.{nop_performed}
use Rattle.operation_checks.specs.Laws.Found.{found_executes, continued}
use Rattle.operation_checks.specs.Laws.Operands.{unused_operated}
use Rattle.operation_control.proofs.nop.Goals as goal

pub returns-then-illegal_fields : goal.returns-then-illegal_fields
unfolding illegal_instruction illegal_access illegal_fields illegal_field
returns-then-illegal_fields c = λ row code flag fresh program constants m n own. listed_illegal _ _ _ _ _ _ _ _ _ _ _ _ _ own (told c.illegal_fields.ensures c.if-illegal_fields.true)

pub returns : goal.returns
unfolding illegal_instruction illegal_access illegal_fields illegal_field lookup_of environment_of fate_course
returns c = λ row code flag fresh program constants m n own. listed_found _ _ _ _ _ _ _ _ _ _ _ _ _ (told c.illegal_fields.ensures c.if-illegal_fields.false) _ _ _ refl refl refl _ _ _ refl refl refl _ _ _ _ (found_executes row m.tags m.words constants _ _ _ _ _ _ _ _ (unused_operated _ _ _ _ _) _ _ _ _ _ (unused_operated _ _ _ _ _) _ _ _ _ _ (unused_operated _ _ _ _ _) _ _ _ _ _ _ _ _ refl refl _ refl _ refl refl _ (nop_performed _ _ _ _ refl) _ _ _ c.continues.ensures.0 (continued _ _ _ _ _ _ c.continues.ensures.1 c.next.ensures) refl)
