use mathlib.Core.Path.{refl}
use Rattle.operand.specs.Field.{illegal_field, lookup_of}
use Rattle.operation.specs.Roles.{illegal_access, illegal_fields, illegal_instruction}
use Rattle.operation.specs.Environment.{environment_of}
use Rattle.operation.proofs.Laws.Found.{told}
use Rattle.operand.specs.Laws.Spans.{source_told}
use Rattle.operation_checks.specs.Laws.Operands.{source_field, source_found}
use Rattle.operation_checks.specs.Laws.Listed.{listed_illegal, second_violated, third_violated, listed_found}
use Rattle.operation_control.proofs.create.Goals as goal

pub returns-then-illegal_fields : goal.returns-then-illegal_fields
unfolding illegal_instruction illegal_access illegal_fields illegal_field
returns-then-illegal_fields c = λ row code program n s own. listed_illegal _ _ _ _ _ _ _ _ _ _ _ _ _ own (told c.illegal_fields.ensures c.if-illegal_fields.true)

pub returns-in_default : goal.returns-in_default
unfolding illegal_instruction illegal_access illegal_fields illegal_field lookup_of
returns-in_default c = λ row code program n s own. second_violated _ _ _ _ _ _ _ _ _ _ _ _ _ (told c.illegal_fields.ensures c.if-illegal_fields.false) own _ refl (source_told row _ _ _ s _ _ _ _ c.source.ensures c.in_default.is)

pub returns-in_default-source : goal.returns-in_default-source
unfolding illegal_instruction illegal_access illegal_fields illegal_field lookup_of
returns-in_default-source c = λ row code program n s own. third_violated _ _ _ _ _ _ _ _ _ _ _ _ _ (told c.illegal_fields.ensures c.if-illegal_fields.false) own _ _ refl (source_told row _ _ _ s _ _ _ _ c.source.ensures c.in-Some.is) (source_told row _ _ _ s _ _ _ _ c.source-2.ensures c.in_default-source.is)

pub returns : goal.returns
unfolding illegal_instruction illegal_access illegal_fields illegal_field lookup_of environment_of
returns c = λ row code program n s own. listed_found _ _ _ _ _ _ _ _ _ _ _ _ _ (told c.illegal_fields.ensures c.if-illegal_fields.false) _ _ _ refl (source_field _ _ _ _ _ c.found_source-s1.ensures) (source_field _ _ _ _ _ c.found_source-s2.ensures) _ _ _ refl (source_told row _ _ _ s _ _ _ _ c.source.ensures c.in-Some.is) (source_told row _ _ _ s _ _ _ _ c.source-2.ensures c.in-Some-source.is) _ _ _ _ (c.create_found.ensures row _ _ _ _ n _ _ _ refl refl own (source_found row _ _ _ _ _ _ _ (source_told row _ _ _ s _ _ _ _ c.source.ensures c.in-Some.is) c.found_source-s1.ensures) (source_found row _ _ _ _ _ _ _ (source_told row _ _ _ s _ _ _ _ c.source-2.ensures c.in-Some-source.is) c.found_source-s2.ensures))
