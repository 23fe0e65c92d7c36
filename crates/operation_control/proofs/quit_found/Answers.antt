use mathlib.Core.Path.{refl, ◌∙◌}
use Rattle.operation_control.specs.Laws.Performed.{quits, stays}
use Rattle.operation_checks.specs.Laws.Found.{found_waits, found_masked, found_executes, continued}
use Rattle.operation_checks.specs.Laws.Operands.{unused_operated, source_operated, held_test}
use Rattle.step.specs.Code.Performs.{fate_course}
use Rattle.step.specs.Code.Parts.{fate_psws}
use Rattle.operation_control.proofs.quit_found.Goals as goal

pub returns-then-waits_source : goal.returns-then-waits_source
returns-then-waits_source c = λ row v i words constant_words n fresh first second ob e own pb. found_waits _ _ _ _ _ _ _ _ _ _ _ _ (unused_operated _ _ _ _ _) _ _ _ _ _ (unused_operated _ _ _ _ _) _ _ _ _ _ (source_operated _ _ _ _ _ _ _ _ _ pb) _ _ _ _ _ _ _ _ c.waits_source.ensures c.if-waits_source.true

pub returns-then-masked : goal.returns-then-masked
returns-then-masked c = λ row v i words constant_words n fresh first second ob e own pb. found_masked _ _ _ _ _ _ _ _ _ _ _ _ (unused_operated _ _ _ _ _) _ _ _ _ _ (unused_operated _ _ _ _ _) _ _ _ _ _ (source_operated _ _ _ _ _ _ _ _ _ pb) _ _ _ _ _ _ _ _ c.waits_source.ensures c.if-waits_source.false _ e _ c.masked.ensures c.if-masked.true own

pub returns-then-holds : goal.returns-then-holds
unfolding fate_course fate_psws
returns-then-holds c = λ row v i words constant_words n fresh first second ob e own pb. found_executes _ _ _ _ _ _ _ _ _ _ _ _ (unused_operated _ _ _ _ _) _ _ _ _ _ (unused_operated _ _ _ _ _) _ _ _ _ _ (source_operated _ _ _ _ _ _ _ _ _ pb) _ _ _ _ _ _ _ _ c.waits_source.ensures c.if-waits_source.false _ e _ c.masked.ensures c.if-masked.false _ (quits v i _ _ e _ _ (c.holds.ensures ∙ (held_test _ _ _ _ _ _ _ _ _ pb _ _ _)) c.if-holds.true) _ _ _ refl refl c.release.ensures

pub returns : goal.returns
unfolding fate_course
returns c = λ row v i words constant_words n fresh first second ob e own pb. found_executes _ _ _ _ _ _ _ _ _ _ _ _ (unused_operated _ _ _ _ _) _ _ _ _ _ (unused_operated _ _ _ _ _) _ _ _ _ _ (source_operated _ _ _ _ _ _ _ _ _ pb) _ _ _ _ _ _ _ _ c.waits_source.ensures c.if-waits_source.false _ e _ c.masked.ensures c.if-masked.false _ (stays v i _ _ e _ _ (c.holds.ensures ∙ (held_test _ _ _ _ _ _ _ _ _ pb _ _ _)) c.if-holds.false) _ _ _ c.continues.ensures.0 (continued _ _ _ _ _ _ c.continues.ensures.1 c.next.ensures) c.release.ensures
