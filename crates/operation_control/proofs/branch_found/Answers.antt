use Rattle.operation_control.specs.Laws.Performed.{branch_performed}
use Rattle.operation_checks.specs.Laws.Found.{found_waits, found_masked, found_executes, continued}
use Rattle.operation_checks.specs.Laws.Operands.{free_operated, source_operated, held_test}
use Rattle.step.specs.Code.Performs.{fate_course}
use Rattle.operation_control.proofs.branch_found.Goals as goal

pub returns-then-waits_s1_s2 : goal.returns-then-waits_s1_s2
returns-then-waits_s1_s2 c = λ row v i words constant_words n fresh oa ob e f own pa pb. found_waits _ _ _ _ _ _ _ _ _ _ _ _ (free_operated _ _ _ _ _) _ _ _ _ _ (source_operated _ _ _ _ _ _ _ _ _ pa) _ _ _ _ _ (source_operated _ _ _ _ _ _ _ _ _ pb) _ _ _ _ _ _ _ _ c.waits_s1_s2.ensures c.if-waits_s1_s2.true

pub returns-then-masked_s1_s2 : goal.returns-then-masked_s1_s2
returns-then-masked_s1_s2 c = λ row v i words constant_words n fresh oa ob e f own pa pb. found_masked _ _ _ _ _ _ _ _ _ _ _ _ (free_operated _ _ _ _ _) _ _ _ _ _ (source_operated _ _ _ _ _ _ _ _ _ pa) _ _ _ _ _ (source_operated _ _ _ _ _ _ _ _ _ pb) _ _ _ _ _ _ _ _ c.waits_s1_s2.ensures c.if-waits_s1_s2.false _ e _ c.masked_s1_s2.ensures c.if-masked_s1_s2.true own

pub returns : goal.returns
unfolding fate_course
returns c = λ row v i words constant_words n fresh oa ob e f own pa pb. found_executes _ _ _ _ _ _ _ _ _ _ _ _ (free_operated _ _ _ _ _) _ _ _ _ _ (source_operated _ _ _ _ _ _ _ _ _ pa) _ _ _ _ _ (source_operated _ _ _ _ _ _ _ _ _ pb) _ _ _ _ _ _ _ _ c.waits_s1_s2.ensures c.if-waits_s1_s2.false _ e _ c.masked_s1_s2.ensures c.if-masked_s1_s2.false _ (branch_performed v i _ _ e _ _ _ _ f (held_test _ _ _ _ _ _ _ _ _ pb _ _ _)) _ _ _ c.continues.ensures.0 (continued _ _ _ _ _ _ c.continues.ensures.1 c.branch_psw.ensures) c.release_s1_s2.ensures
