use Rattle.operation_registers.specs.Laws.Performed.{three_performed}
use Rattle.operation_checks.specs.Laws.Found.{found_waits, found_masked, found_result}
use Rattle.operation_checks.specs.Laws.Operands.{destination_operated, source_operated}
use Rattle.operation_registers.proofs.three_found.Goals as goal

pub returns-then-waits_d_s1_s2 : goal.returns-then-waits_d_s1_s2
returns-then-waits_d_s1_s2 c = λ row v i constant_words n fresh od oa ob e own dd pa pb. found_waits _ _ _ _ _ _ _ _ _ _ _ _ (destination_operated _ _ _ _ _ _ _ dd) _ _ _ _ _ (source_operated _ _ _ _ _ _ _ _ _ pa) _ _ _ _ _ (source_operated _ _ _ _ _ _ _ _ _ pb) _ _ _ _ _ _ _ _ c.waits_d_s1_s2.ensures c.if-waits_d_s1_s2.true

pub returns-then-masked_s1_s2 : goal.returns-then-masked_s1_s2
returns-then-masked_s1_s2 c = λ row v i constant_words n fresh od oa ob e own dd pa pb. found_masked _ _ _ _ _ _ _ _ _ _ _ _ (destination_operated _ _ _ _ _ _ _ dd) _ _ _ _ _ (source_operated _ _ _ _ _ _ _ _ _ pa) _ _ _ _ _ (source_operated _ _ _ _ _ _ _ _ _ pb) _ _ _ _ _ _ _ _ c.waits_d_s1_s2.ensures c.if-waits_d_s1_s2.false _ e _ c.masked_s1_s2.ensures c.if-masked_s1_s2.true own

pub returns : goal.returns
returns c = λ row v i constant_words n fresh od oa ob e own dd pa pb. found_result _ _ _ _ _ _ _ _ _ _ _ _ (destination_operated _ _ _ _ _ _ _ dd) _ _ _ _ _ (source_operated _ _ _ _ _ _ _ _ _ pa) _ _ _ _ _ (source_operated _ _ _ _ _ _ _ _ _ pb) _ _ _ _ _ _ _ _ c.waits_d_s1_s2.ensures c.if-waits_d_s1_s2.false _ e _ c.masked_s1_s2.ensures c.if-masked_s1_s2.false _ (three_performed _ _ _ _ _ c.result_three-out.ensures) _ dd _ _ _ _ _ c.continues.ensures.0 c.next.ensures c.continues.ensures.1 c.write_d_s1_s2.ensures.0 c.write_d_s1_s2.ensures.1
