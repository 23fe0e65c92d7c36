use Rattle.operation_checks.specs.Laws.Operands.{two_left, tag_told}
use Rattle.operation.proofs.Laws.Found.{told}
use Rattle.operation_checks.proofs.release_d_s1.Goals as goal

pub returns-then-plain_two : goal.returns-then-plain_two
returns-then-plain_two c = two_left _ _ (told c.plain_two.ensures c.if-plain_two.true) _ _ _ _

pub returns : goal.returns
returns c = (tag_told _ _ _ _ c.destination_tag.ensures c.access.ensures, c.release.ensures)
