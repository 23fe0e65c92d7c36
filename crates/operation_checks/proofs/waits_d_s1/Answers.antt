use Rattle.operation.proofs.Laws.Found.{told}
use Rattle.operation_checks.specs.Laws.Operands.{two_wait}
use Rattle.operand.specs.declared.Role.TheVariants.{Destination, Source}
use Rattle.operation_checks.proofs.waits_d_s1.Goals as goal

pub returns-then-plain_two : goal.returns-then-plain_two
returns-then-plain_two c = two_wait _ _ (told c.plain_two.ensures c.if-plain_two.true) Destination Source _ _

pub returns-then-waits_d : goal.returns-then-waits_d
returns-then-waits_d c = simp (c.if-waits_d.true, ← c.waits_d.ensures, c.if-plain_two.false, ← c.plain_two.ensures)

pub returns : goal.returns
returns c = simp (← c.waits_source.ensures, c.if-waits_d.false, ← c.waits_d.ensures, c.if-plain_two.false, ← c.plain_two.ensures)
