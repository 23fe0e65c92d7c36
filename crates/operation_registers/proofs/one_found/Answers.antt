use Rattle.operation_registers.specs.Laws.Performed.{one_performed}
use mathlib.Core.Path.{refl, ◌∙◌}
use Rattle.operation_checks.specs.Laws.Found.{found_waits, found_result}
use Rattle.operation_checks.specs.Laws.Operands.{or_none, unused_operated, destination_operated}
use Rattle.operation_registers.proofs.one_found.Goals as goal

pub returns-then-waits_d : goal.returns-then-waits_d
returns-then-waits_d c = λ row v i constants n fresh second third od e own dd. found_waits _ _ _ _ _ _ _ _ _ _ _ _ (destination_operated _ _ _ _ _ _ _ dd) _ _ _ _ _ (unused_operated _ _ _ _ _) _ _ _ _ _ (unused_operated _ _ _ _ _) _ _ _ _ _ _ _ _ (c.waits_d.ensures ∙ or_none _) c.if-waits_d.true

pub returns : goal.returns
returns c = λ row v i constants n fresh second third od e own dd. found_result _ _ _ _ _ _ _ _ _ _ _ _ (destination_operated _ _ _ _ _ _ _ dd) _ _ _ _ _ (unused_operated _ _ _ _ _) _ _ _ _ _ (unused_operated _ _ _ _ _) _ _ _ _ _ _ _ _ (c.waits_d.ensures ∙ or_none _) c.if-waits_d.false _ e _ refl refl _ (one_performed _ _ _ _ _ c.result_one-out.ensures) _ dd _ _ _ _ _ c.continues.ensures.0 c.next.ensures c.continues.ensures.1 c.write_d.ensures.0 c.write_d.ensures.1
