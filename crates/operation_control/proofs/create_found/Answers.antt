use mathlib.Core.Path.{◌∙◌}
use Rattle.operation_control.specs.Laws.Performed.{create_waits_lem, creates, creates_none, created_psws_lem}
use Rattle.operation_checks.specs.Laws.Found.{found_waits, found_masked, found_performs, found_executes, continued}
use Rattle.operation_checks.specs.Laws.Operands.{unused_operated, source_operated, held_test}
use Rattle.step.specs.Code.Performs.{fate_course}
use Rattle.step.proofs.Laws.Performs.{performs_waits}
use Rattle.operation.specs.declared.Wait.TheVariants as wait
use Rattle.operation_control.proofs.create_found.Goals as goal

pub returns-then-waits_s1_s2 : goal.returns-then-waits_s1_s2
returns-then-waits_s1_s2 c = λ row v i words constant_words n first oa ob e up own pa pb. found_waits _ _ _ _ _ _ _ _ _ _ _ _ (unused_operated _ _ _ _ _) _ _ _ _ _ (source_operated _ _ _ _ _ _ _ _ _ pa) _ _ _ _ _ (source_operated _ _ _ _ _ _ _ _ _ pb) _ _ _ _ _ _ _ _ c.waits_s1_s2.ensures c.if-waits_s1_s2.true

pub returns-then-masked_s1_s2 : goal.returns-then-masked_s1_s2
returns-then-masked_s1_s2 c = λ row v i words constant_words n first oa ob e up own pa pb. found_masked _ _ _ _ _ _ _ _ _ _ _ _ (unused_operated _ _ _ _ _) _ _ _ _ _ (source_operated _ _ _ _ _ _ _ _ _ pa) _ _ _ _ _ (source_operated _ _ _ _ _ _ _ _ _ pb) _ _ _ _ _ _ _ _ c.waits_s1_s2.ensures c.if-waits_s1_s2.false _ e _ c.masked_s1_s2.ensures c.if-masked_s1_s2.true own

pub returns-then-create_waits : goal.returns-then-create_waits
returns-then-create_waits c = λ row v i words constant_words n first oa ob e up own pa pb. found_performs _ _ _ _ _ _ _ _ _ _ _ _ (unused_operated _ _ _ _ _) _ _ _ _ _ (source_operated _ _ _ _ _ _ _ _ _ pa) _ _ _ _ _ (source_operated _ _ _ _ _ _ _ _ _ pb) _ _ _ _ _ _ _ _ c.waits_s1_s2.ensures c.if-waits_s1_s2.false _ e _ c.masked_s1_s2.ensures c.if-masked_s1_s2.false _ (create_waits_lem v i _ _ e _ _ (c.holds-holds.ensures ∙ (held_test _ _ _ _ _ _ _ _ _ pb _ _ _)) _ _ up _ c.create_waits.ensures c.if-create_waits.true) _ _ _ _ (performs_waits _ _ _ _ _ _ wait.Create)

pub returns-then-holds : goal.returns-then-holds
unfolding fate_course
returns-then-holds c = λ row v i words constant_words n first oa ob e up own pa pb. found_executes _ _ _ _ _ _ _ _ _ _ _ _ (unused_operated _ _ _ _ _) _ _ _ _ _ (source_operated _ _ _ _ _ _ _ _ _ pa) _ _ _ _ _ (source_operated _ _ _ _ _ _ _ _ _ pb) _ _ _ _ _ _ _ _ c.waits_s1_s2.ensures c.if-waits_s1_s2.false _ e _ c.masked_s1_s2.ensures c.if-masked_s1_s2.false _ (creates v i _ _ e _ _ (c.holds-holds.ensures ∙ (held_test _ _ _ _ _ _ _ _ _ pb _ _ _)) _ _ up _ c.create_waits.ensures c.if-create_waits.false c.if-holds.true) _ _ _ c.creates.ensures.0 (created_psws_lem _ _ _ _ _ _ _ _ c.creates.ensures.1 c.next.ensures c.created_psw.ensures) c.release_s1_s2.ensures

pub returns : goal.returns
unfolding fate_course
returns c = λ row v i words constant_words n first oa ob e up own pa pb. found_executes _ _ _ _ _ _ _ _ _ _ _ _ (unused_operated _ _ _ _ _) _ _ _ _ _ (source_operated _ _ _ _ _ _ _ _ _ pa) _ _ _ _ _ (source_operated _ _ _ _ _ _ _ _ _ pb) _ _ _ _ _ _ _ _ c.waits_s1_s2.ensures c.if-waits_s1_s2.false _ e _ c.masked_s1_s2.ensures c.if-masked_s1_s2.false _ (creates_none v i _ _ e _ _ (c.holds-holds.ensures ∙ (held_test _ _ _ _ _ _ _ _ _ pb _ _ _)) _ _ up _ c.create_waits.ensures c.if-create_waits.false c.if-holds.false) _ _ _ c.continues.ensures.0 (continued _ _ _ _ _ _ c.continues.ensures.1 c.next-2.ensures) c.release_s1_s2.ensures
