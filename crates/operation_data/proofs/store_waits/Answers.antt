use borrow.Author.Tests.{eq-eqb, ne_eqb}
use Rattle.operation.specs.Perform.{store_waits}
use Rattle.operation_data.proofs.store_waits.Goals as goal

pub returns-then-low-eq2 : goal.returns-then-low-eq2
unfolding store_waits
returns-then-low-eq2 c = simp (eq-eqb _ _ c.if-low-eq2.true, ← c.at_or.ensures)

pub returns : goal.returns
unfolding store_waits
returns c = simp (ne_eqb _ _ c.if-low-eq2.false)
