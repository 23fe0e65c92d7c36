use Rattle.operation_registers.specs.Laws.Performed.{two_performed}
use mathlib.Core.Path.{◌∙◌}
use Rattle.operation_checks.specs.Laws.Found.{found_waits, found_masked, found_result}
use Rattle.operation_checks.specs.Laws.Operands.{or_none, or_one, unused_operated, destination_operated, source_operated}
use Rattle.operation_registers.proofs.two_found.Goals as goal

pub returns-then-waits_d_s1 : goal.returns-then-waits_d_s1
returns-then-waits_d_s1 c = λ row v i constant_words n fresh third od oa e own dd pa. found_waits _ _ _ _ _ _ _ _ _ _ _ _ (destination_operated _ _ _ _ _ _ _ dd) _ _ _ _ _ (source_operated _ _ _ _ _ _ _ _ _ pa) _ _ _ _ _ (unused_operated _ _ _ _ _) _ _ _ _ _ _ _ _ (or_one _ _ _ _ _ c.waits_d_s1.ensures) c.if-waits_d_s1.true

pub returns-then-masked : goal.returns-then-masked
returns-then-masked c = λ row v i constant_words n fresh third od oa e own dd pa. found_masked _ _ _ _ _ _ _ _ _ _ _ _ (destination_operated _ _ _ _ _ _ _ dd) _ _ _ _ _ (source_operated _ _ _ _ _ _ _ _ _ pa) _ _ _ _ _ (unused_operated _ _ _ _ _) _ _ _ _ _ _ _ _ (or_one _ _ _ _ _ c.waits_d_s1.ensures) c.if-waits_d_s1.false _ e _ (c.masked.ensures ∙ or_none _) c.if-masked.true own

pub returns : goal.returns
returns c = λ row v i constant_words n fresh third od oa e own dd pa. found_result _ _ _ _ _ _ _ _ _ _ _ _ (destination_operated _ _ _ _ _ _ _ dd) _ _ _ _ _ (source_operated _ _ _ _ _ _ _ _ _ pa) _ _ _ _ _ (unused_operated _ _ _ _ _) _ _ _ _ _ _ _ _ (or_one _ _ _ _ _ c.waits_d_s1.ensures) c.if-waits_d_s1.false _ e _ (c.masked.ensures ∙ or_none _) c.if-masked.false _ (two_performed _ _ _ _ _ c.result_two-out.ensures) _ dd _ _ _ _ _ c.continues.ensures.0 c.next.ensures c.continues.ensures.1 c.write_d_s1.ensures.0 c.write_d_s1.ensures.1
