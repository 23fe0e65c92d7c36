use Rattle.operation.specs.Roles.{illegal_instruction, illegal_access, illegal_fields}
use Rattle.operation.proofs.Laws.Found.{told}
use Rattle.operand.specs.Laws.Spans.{source_told, destination_told}
use Rattle.operation_checks.specs.Laws.Operands.{destination_field, destination_found, source_field, source_found, or_told}
use Rattle.operation_checks.specs.Laws.Listed.{listed_illegal, first_violated, second_violated, third_violated, listed_found}
use Rattle.operation_data.proofs.load_indexed.Goals as goal

pub returns-then-illegal : goal.returns-then-illegal
unfolding illegal_instruction illegal_access illegal_fields
returns-then-illegal c = λ row code flag fresh program s span own. listed_illegal _ _ _ _ _ _ _ _ _ _ _ _ _ own (told (or_told _ _ _ _ c.illegal.ensures c.illegal_load.ensures) c.if-illegal.true)

pub returns-in_default : goal.returns-in_default
unfolding illegal_instruction illegal_access illegal_fields
returns-in_default c = λ row code flag fresh program s span own. first_violated _ _ _ _ _ _ _ _ _ _ _ _ _ (told (or_told _ _ _ _ c.illegal.ensures c.illegal_load.ensures) c.if-illegal.false) own (destination_told row _ _ _ s _ _ _ _ c.destination.ensures c.in_default.is)

pub returns-in_default-source : goal.returns-in_default-source
unfolding illegal_instruction illegal_access illegal_fields
returns-in_default-source c = λ row code flag fresh program s span own. second_violated _ _ _ _ _ _ _ _ _ _ _ _ _ (told (or_told _ _ _ _ c.illegal.ensures c.illegal_load.ensures) c.if-illegal.false) own _ (destination_told row _ _ _ s _ _ _ _ c.destination.ensures c.in-Some.is) (source_told row _ _ _ s _ _ _ _ c.source.ensures c.in_default-source.is)

pub returns-in_default-source-2 : goal.returns-in_default-source-2
unfolding illegal_instruction illegal_access illegal_fields
returns-in_default-source-2 c = λ row code flag fresh program s span own. third_violated _ _ _ _ _ _ _ _ _ _ _ _ _ (told (or_told _ _ _ _ c.illegal.ensures c.illegal_load.ensures) c.if-illegal.false) own _ _ (destination_told row _ _ _ s _ _ _ _ c.destination.ensures c.in-Some.is) (source_told row _ _ _ s _ _ _ _ c.source.ensures c.in-Some-source.is) (source_told row _ _ _ s _ _ _ _ c.source-2.ensures c.in_default-source-2.is)

pub returns : goal.returns
unfolding illegal_instruction illegal_access illegal_fields
returns c = λ row code flag fresh program s span own. listed_found _ _ _ _ _ _ _ _ _ _ _ _ _ (told (or_told _ _ _ _ c.illegal.ensures c.illegal_load.ensures) c.if-illegal.false) _ _ _ (destination_field _ _ _ c.found_destination-d.ensures) (source_field _ _ _ _ _ c.found_source-s1.ensures) (source_field _ _ _ _ _ c.found_source-s2.ensures) _ _ _ (destination_told row _ _ _ s _ _ _ _ c.destination.ensures c.in-Some.is) (source_told row _ _ _ s _ _ _ _ c.source.ensures c.in-Some-source.is) (source_told row _ _ _ s _ _ _ _ c.source-2.ensures c.in-Some-source-2.is) _ _ _ _ (c.load_indexed_found.ensures row _ flag fresh program _ _ _ _ span own (destination_found row _ _ _ _ (destination_told row _ _ _ s _ _ _ _ c.destination.ensures c.in-Some.is) c.found_destination-d.ensures) (source_found row _ _ _ _ _ _ _ (source_told row _ _ _ s _ _ _ _ c.source.ensures c.in-Some-source.is) c.found_source-s1.ensures) (source_found row _ _ _ _ _ _ _ (source_told row _ _ _ s _ _ _ _ c.source-2.ensures c.in-Some-source-2.is) c.found_source-s2.ensures))
