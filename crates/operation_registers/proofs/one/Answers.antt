use mathlib.Core.Path.{refl}
use Rattle.operand.specs.Field.{lookup_of, illegal_field}
use Rattle.operation.specs.Roles.{illegal_fields, illegal_access, illegal_instruction}
use Rattle.operation.specs.Environment.{environment_of}
use Rattle.operation.proofs.Laws.Found.{told}
use Rattle.operand.specs.Laws.Spans.{destination_told}
use Rattle.operation_checks.specs.Laws.Operands.{destination_field, destination_found}
use Rattle.operation_checks.specs.Laws.Listed.{listed_illegal, first_violated, listed_found}
use Rattle.operation_registers.proofs.one.Goals as goal

pub returns-then-illegal_fields : goal.returns-then-illegal_fields
unfolding illegal_instruction illegal_access illegal_fields illegal_field
returns-then-illegal_fields c = λ row code flag fresh cb program constants n s own. listed_illegal _ _ _ _ _ _ _ _ _ _ _ _ _ own (told c.illegal_fields.ensures c.if-illegal_fields.true)

pub returns-in_default : goal.returns-in_default
unfolding illegal_instruction illegal_access illegal_fields illegal_field
returns-in_default c = λ row code flag fresh cb program constants n s own. first_violated _ _ _ _ _ _ _ _ _ _ _ _ _ (told c.illegal_fields.ensures c.if-illegal_fields.false) own (destination_told row _ _ _ s _ _ _ _ c.destination.ensures c.in_default.is)

pub returns : goal.returns
unfolding illegal_instruction illegal_access illegal_fields illegal_field environment_of lookup_of
returns c = λ row code flag fresh cb program constants n s own. listed_found _ _ _ _ _ _ _ _ _ _ _ _ _ (told c.illegal_fields.ensures c.if-illegal_fields.false) _ _ _ (destination_field _ _ _ c.found_destination-d.ensures) refl refl _ _ _ (destination_told row _ _ _ s _ _ _ _ c.destination.ensures c.in-Some.is) refl refl _ _ _ _ (c.one_found.ensures row _ _ _ n fresh _ _ _ refl own (destination_found row _ _ _ _ (destination_told row _ _ _ s _ _ _ _ c.destination.ensures c.in-Some.is) c.found_destination-d.ensures))
