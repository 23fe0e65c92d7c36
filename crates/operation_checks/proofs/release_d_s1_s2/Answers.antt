use Rattle.operation_checks.specs.Laws.Operands.{three_left, tag_told, released_told}
use Rattle.operation.proofs.Laws.Found.{told}
use Rattle.operation_checks.proofs.release_d_s1_s2.Goals as goal

pub returns-then-plain_three : goal.returns-then-plain_three
returns-then-plain_three c = three_left _ _ _ (told c.plain_three.ensures c.if-plain_three.true) _ _ _ _ _ _

pub returns : goal.returns
returns c = (tag_told _ _ _ _ c.destination_tag.ensures c.access.ensures, released_told _ _ _ _ _ _ _ _ _ c.release-2.ensures c.release.ensures)
