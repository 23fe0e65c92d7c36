use Rattle.operation_checks.specs.Laws.Operands.{two_released, released_told}
use Rattle.operation.proofs.Laws.Found.{told}
use Rattle.operation_checks.proofs.release_s1_s2.Goals as goal

pub returns-then-plain_two : goal.returns-then-plain_two
returns-then-plain_two c = two_released _ _ (told c.plain_two.ensures c.if-plain_two.true) _ _ _ _ _

pub returns : goal.returns
returns c = released_told _ _ _ _ _ _ _ _ _ c.release-2.ensures c.release.ensures
