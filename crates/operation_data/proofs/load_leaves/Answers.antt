use borrow.Author.Tests.{eq-eqb, ne_eqb}
use Rattle.operation_data.specs.Code.Reached.{tags_left}
use Rattle.operation_data.proofs.load_leaves.Goals as goal

pub returns-then-low-eq2 : goal.returns-then-low-eq2
unfolding tags_left
returns-then-low-eq2 c = simp (eq-eqb _ _ c.if-low-eq2.true, c.set_at.ensures)

pub returns-else-low-eq2 : goal.returns-else-low-eq2
unfolding tags_left
returns-else-low-eq2 c = simp (ne_eqb _ _ c.if-low-eq2.false)
