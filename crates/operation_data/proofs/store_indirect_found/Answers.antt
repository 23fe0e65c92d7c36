use mathlib.Core.Path.{refl, ◌∙◌}
use Rattle.std.specs.Prelude.{Err}
use Rattle.operation.specs.declared.Wait.TheVariants.{Data}
use Rattle.operation.specs.Environment.{environment_of}
use Rattle.operation.specs.Perform.{store_to}
use Rattle.step.specs.Code.Performs.{fate_course}
use Rattle.step.proofs.Laws.Performs.{performs_waits, performs_traps}
use Rattle.operation_checks.specs.Laws.Operands.{unused_operated, source_operated}
use Rattle.operation_checks.specs.Laws.Found.{found_waits, found_masked, found_performs, executes_sources}
use Rattle.operation_data.specs.Laws.Reached.{reach, stores_indirect, store_seen, store_left, goes_on_lem}
use Rattle.operation_data.proofs.store_indirect_found.Goals as goal

pub returns-then-waits_s1_s2 : goal.returns-then-waits_s1_s2
returns-then-waits_s1_s2 c = λ row i flag fresh program constant_words first oa ob span own pa pb. found_waits _ _ _ _ _ _ _ _ _ _ _ _ (unused_operated _ _ _ _ _) _ _ _ _ _ (source_operated _ _ _ _ _ _ _ _ _ pa) _ _ _ _ _ (source_operated _ _ _ _ _ _ _ _ _ pb) _ _ _ _ _ _ _ _ c.waits_s1_s2.ensures c.if-waits_s1_s2.true

pub returns-then-masked_s1_s2 : goal.returns-then-masked_s1_s2
unfolding environment_of
returns-then-masked_s1_s2 c = λ row i flag fresh program constant_words first oa ob span own pa pb. found_masked _ _ _ _ _ _ _ _ _ _ _ _ (unused_operated _ _ _ _ _) _ _ _ _ _ (source_operated _ _ _ _ _ _ _ _ _ pa) _ _ _ _ _ (source_operated _ _ _ _ _ _ _ _ _ pb) _ _ _ _ _ _ _ _ c.waits_s1_s2.ensures c.if-waits_s1_s2.false _ refl _ c.masked_s1_s2.ensures c.if-masked_s1_s2.true own

pub returns-then-store_waits : goal.returns-then-store_waits
unfolding environment_of
returns-then-store_waits c = λ row i flag fresh program constant_words first oa ob span own pa pb. found_performs _ _ _ _ _ _ _ _ _ _ _ _ (unused_operated _ _ _ _ _) _ _ _ _ _ (source_operated _ _ _ _ _ _ _ _ _ pa) _ _ _ _ _ (source_operated _ _ _ _ _ _ _ _ _ pb) _ _ _ _ _ _ _ _ c.waits_s1_s2.ensures c.if-waits_s1_s2.false _ refl _ c.masked_s1_s2.ensures c.if-masked_s1_s2.false _ (store_seen row _ _ _ _ _ _ _ _ _ _ _ _ (reach row _ _ _ _ span _ _ c.data_reach.ensures c.in-Ok.is) _ _ _ _ c.stored-word.ensures c.store_waits.ensures c.if-store_waits.true ∙ stores_indirect row _ _ _ _ _ _ _ _ _ _ _ _ (reach row _ _ _ _ span _ _ c.data_reach.ensures c.in-Ok.is) c.indirect_address.ensures) _ _ _ _ (performs_waits row _ _ _ _ _ Data)

pub returns-in-Err : goal.returns-in-Err
unfolding environment_of store_to
returns-in-Err c = λ row i flag fresh program constant_words first oa ob span own pa pb. found_performs _ _ _ _ _ _ _ _ _ _ _ _ (unused_operated _ _ _ _ _) _ _ _ _ _ (source_operated _ _ _ _ _ _ _ _ _ pa) _ _ _ _ _ (source_operated _ _ _ _ _ _ _ _ _ pb) _ _ _ _ _ _ _ _ c.waits_s1_s2.ensures c.if-waits_s1_s2.false _ refl _ c.masked_s1_s2.ensures c.if-masked_s1_s2.false _ (stores_indirect row _ _ _ _ _ _ _ _ _ _ _ (Err _) (reach row _ _ _ _ span _ _ c.data_reach.ensures c.in-Err.is) c.indirect_address.ensures) _ _ _ _ (performs_traps row _ _ _ _ _ _ _ _ c.from.ensures own)

pub returns-else-store_waits : goal.returns-else-store_waits
unfolding environment_of fate_course
returns-else-store_waits c = λ row i flag fresh program constant_words first oa ob span own pa pb. found_performs _ _ _ _ _ _ _ _ _ _ _ _ (unused_operated _ _ _ _ _) _ _ _ _ _ (source_operated _ _ _ _ _ _ _ _ _ pa) _ _ _ _ _ (source_operated _ _ _ _ _ _ _ _ _ pb) _ _ _ _ _ _ _ _ c.waits_s1_s2.ensures c.if-waits_s1_s2.false _ refl _ c.masked_s1_s2.ensures c.if-masked_s1_s2.false _ (store_seen row _ _ _ _ _ _ _ _ _ _ _ _ (reach row _ _ _ _ span _ _ c.data_reach.ensures c.in-Ok.is) _ _ _ _ c.stored-word.ensures c.store_waits.ensures c.if-store_waits.false ∙ stores_indirect row _ _ _ _ _ _ _ _ _ _ _ _ (reach row _ _ _ _ span _ _ c.data_reach.ensures c.in-Ok.is) c.indirect_address.ensures) _ _ _ _ (executes_sources _ _ _ _ _ _ _ _ _ _ _ _ (unused_operated _ _ _ _ _) _ _ _ _ _ (source_operated _ _ _ _ _ _ _ _ _ pa) _ _ _ _ _ (source_operated _ _ _ _ _ _ _ _ _ pb) _ _ _ _ _ _ _ _ _ _ c.continues.ensures.0 (goes_on_lem _ _ _ _ _ _ c.continues.ensures.1 c.next.ensures) c.release_s1_s2.ensures (store_left row _ _ _ _ (reach row _ _ _ _ span _ _ c.data_reach.ensures c.in-Ok.is) _ _ _ _ _ c.store_leaves.ensures.0 c.store_leaves.ensures.1))
