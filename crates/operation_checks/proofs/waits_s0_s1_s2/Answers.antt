use Rattle.operation.proofs.Laws.Found.{told}
use Rattle.operation_checks.specs.Laws.Operands.{three_wait}
use Rattle.operand.specs.declared.Role.TheVariants.{Source}
use Rattle.operation_checks.proofs.waits_s0_s1_s2.Goals as goal

pub returns-then-plain_three : goal.returns-then-plain_three
returns-then-plain_three c = three_wait _ _ _ (told c.plain_three.ensures c.if-plain_three.true) Source Source Source _ _ _

pub returns-then-waits_source : goal.returns-then-waits_source
returns-then-waits_source c = simp (c.if-waits_source.true, ← c.waits_source.ensures, c.if-plain_three.false, ← c.plain_three.ensures)

pub returns : goal.returns
returns c = simp (← c.sources_wait.ensures, c.if-waits_source.false, ← c.waits_source.ensures, c.if-plain_three.false, ← c.plain_three.ensures)
