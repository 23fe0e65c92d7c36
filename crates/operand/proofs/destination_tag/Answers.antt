use borrow.Author.Tests.{eq-eqb, ne_eqb}
use Rattle.operand.specs.Access.{destination_tag}
use Rattle.operand.specs.Laws.Access.{destination_emptied_by}
use Rattle.operand.proofs.destination_tag.Goals as goal

pub returns-then-ac-eq3 : goal.returns-then-ac-eq3
unfolding destination_tag
returns-then-ac-eq3 c = simp (destination_emptied_by, eq-eqb _ _ c.if-ac-eq3.true)

pub returns : goal.returns
unfolding destination_tag
returns c = simp (destination_emptied_by, ne_eqb _ _ c.if-ac-eq3.false)
