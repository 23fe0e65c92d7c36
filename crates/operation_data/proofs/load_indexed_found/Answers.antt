use mathlib.Core.Path.{refl, ◌∙◌}
use Rattle.std.specs.Prelude.{Err}
use Rattle.operation.specs.declared.Wait.TheVariants.{Data}
use Rattle.operation.specs.Environment.{environment_of}
use Rattle.operation.specs.Perform.{load_from}
use Rattle.step.specs.Code.Performs.{fate_course}
use Rattle.step.proofs.Laws.Performs.{performs_waits, performs_traps}
use Rattle.operation_checks.specs.Laws.Operands.{destination_operated, source_operated}
use Rattle.operation_checks.specs.Laws.Found.{found_waits, found_masked, found_performs, executes_result}
use Rattle.operation_data.specs.Laws.Reached.{reach, loads_indexed, load_seen, load_left, goes_on_lem}
use Rattle.operation_data.proofs.load_indexed_found.Goals as goal

pub returns-then-waits_d_s1_s2 : goal.returns-then-waits_d_s1_s2
returns-then-waits_d_s1_s2 c = λ row i flag fresh program constant_words od oa ob span own dd pa pb. found_waits _ _ _ _ _ _ _ _ _ _ _ _ (destination_operated _ _ _ _ _ _ _ dd) _ _ _ _ _ (source_operated _ _ _ _ _ _ _ _ _ pa) _ _ _ _ _ (source_operated _ _ _ _ _ _ _ _ _ pb) _ _ _ _ _ _ _ _ c.waits_d_s1_s2.ensures c.if-waits_d_s1_s2.true

pub returns-then-masked_s1_s2 : goal.returns-then-masked_s1_s2
unfolding environment_of
returns-then-masked_s1_s2 c = λ row i flag fresh program constant_words od oa ob span own dd pa pb. found_masked _ _ _ _ _ _ _ _ _ _ _ _ (destination_operated _ _ _ _ _ _ _ dd) _ _ _ _ _ (source_operated _ _ _ _ _ _ _ _ _ pa) _ _ _ _ _ (source_operated _ _ _ _ _ _ _ _ _ pb) _ _ _ _ _ _ _ _ c.waits_d_s1_s2.ensures c.if-waits_d_s1_s2.false _ refl _ c.masked_s1_s2.ensures c.if-masked_s1_s2.true own

pub returns-then-load_waits : goal.returns-then-load_waits
unfolding environment_of
returns-then-load_waits c = λ row i flag fresh program constant_words od oa ob span own dd pa pb. found_performs _ _ _ _ _ _ _ _ _ _ _ _ (destination_operated _ _ _ _ _ _ _ dd) _ _ _ _ _ (source_operated _ _ _ _ _ _ _ _ _ pa) _ _ _ _ _ (source_operated _ _ _ _ _ _ _ _ _ pb) _ _ _ _ _ _ _ _ c.waits_d_s1_s2.ensures c.if-waits_d_s1_s2.false _ refl _ c.masked_s1_s2.ensures c.if-masked_s1_s2.false _ (load_seen row _ _ _ _ _ _ _ _ _ _ _ _ (reach row _ _ _ _ span _ _ c.data_reach.ensures c.in-Ok.is) _ _ _ c.loaded-word.ensures c.load_waits.ensures c.if-load_waits.true ∙ loads_indexed row _ _ _ _ _ _ _ _ _ _ _ _ (reach row _ _ _ _ span _ _ c.data_reach.ensures c.in-Ok.is) c.indexed_address.ensures) _ _ _ _ (performs_waits row _ _ _ _ _ Data)

pub returns-in-Err : goal.returns-in-Err
unfolding environment_of load_from
returns-in-Err c = λ row i flag fresh program constant_words od oa ob span own dd pa pb. found_performs _ _ _ _ _ _ _ _ _ _ _ _ (destination_operated _ _ _ _ _ _ _ dd) _ _ _ _ _ (source_operated _ _ _ _ _ _ _ _ _ pa) _ _ _ _ _ (source_operated _ _ _ _ _ _ _ _ _ pb) _ _ _ _ _ _ _ _ c.waits_d_s1_s2.ensures c.if-waits_d_s1_s2.false _ refl _ c.masked_s1_s2.ensures c.if-masked_s1_s2.false _ (loads_indexed row _ _ _ _ _ _ _ _ _ _ _ (Err _) (reach row _ _ _ _ span _ _ c.data_reach.ensures c.in-Err.is) c.indexed_address.ensures) _ _ _ _ (performs_traps row _ _ _ _ _ _ _ _ c.from.ensures own)

pub returns-else-load_waits : goal.returns-else-load_waits
unfolding environment_of fate_course
returns-else-load_waits c = λ row i flag fresh program constant_words od oa ob span own dd pa pb. found_performs _ _ _ _ _ _ _ _ _ _ _ _ (destination_operated _ _ _ _ _ _ _ dd) _ _ _ _ _ (source_operated _ _ _ _ _ _ _ _ _ pa) _ _ _ _ _ (source_operated _ _ _ _ _ _ _ _ _ pb) _ _ _ _ _ _ _ _ c.waits_d_s1_s2.ensures c.if-waits_d_s1_s2.false _ refl _ c.masked_s1_s2.ensures c.if-masked_s1_s2.false _ (load_seen row _ _ _ _ _ _ _ _ _ _ _ _ (reach row _ _ _ _ span _ _ c.data_reach.ensures c.in-Ok.is) _ _ _ c.loaded-word.ensures c.load_waits.ensures c.if-load_waits.false ∙ loads_indexed row _ _ _ _ _ _ _ _ _ _ _ _ (reach row _ _ _ _ span _ _ c.data_reach.ensures c.in-Ok.is) c.indexed_address.ensures) _ _ _ _ (executes_result _ _ _ _ _ _ _ _ _ _ _ _ (destination_operated _ _ _ _ _ _ _ dd) _ _ _ _ _ (source_operated _ _ _ _ _ _ _ _ _ pa) _ _ _ _ _ (source_operated _ _ _ _ _ _ _ _ _ pb) _ _ _ _ _ dd _ _ _ _ _ _ _ _ c.continues.ensures.0 (goes_on_lem _ _ _ _ _ _ c.continues.ensures.1 c.next.ensures) c.write_d_s1_s2.ensures.0 c.write_d_s1_s2.ensures.1 (load_left row _ _ _ _ (reach row _ _ _ _ span _ _ c.data_reach.ensures c.in-Ok.is) _ _ _ c.load_leaves.ensures))
