use Rattle.operation.proofs.Laws.Found.{told}
use Rattle.operation_checks.specs.Laws.Operands.{three_wait}
use Rattle.operand.specs.declared.Role.TheVariants.{Destination, Source}
use Rattle.operation_checks.proofs.waits_d_s1_s2.Goals as goal

pub returns-then-plain_three : goal.returns-then-plain_three
returns-then-plain_three c = three_wait _ _ _ (told c.plain_three.ensures c.if-plain_three.true) Destination Source Source _ _ _

pub returns-then-waits_d : goal.returns-then-waits_d
returns-then-waits_d c = simp (c.if-waits_d.true, ← c.waits_d.ensures, c.if-plain_three.false, ← c.plain_three.ensures)

pub returns : goal.returns
returns c = simp (← c.sources_wait.ensures, c.if-waits_d.false, ← c.waits_d.ensures, c.if-plain_three.false, ← c.plain_three.ensures)
