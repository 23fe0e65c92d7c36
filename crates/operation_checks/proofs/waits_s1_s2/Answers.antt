use Rattle.operation.proofs.Laws.Found.{told}
use Rattle.operation_checks.specs.Laws.Operands.{two_wait}
use Rattle.operand.specs.declared.Role.TheVariants.{Source}
use Rattle.operation_checks.proofs.waits_s1_s2.Goals as goal

pub returns-then-plain_two : goal.returns-then-plain_two
returns-then-plain_two c = two_wait _ _ (told c.plain_two.ensures c.if-plain_two.true) Source Source _ _

pub returns : goal.returns
returns c = simp (← c.sources_wait.ensures, c.if-plain_two.false, ← c.plain_two.ensures)
