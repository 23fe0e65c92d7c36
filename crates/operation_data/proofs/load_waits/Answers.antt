use borrow.Author.Tests.{eq-eqb, ne_eqb}
use Rattle.operation.specs.Perform.{load_waits}
use Rattle.operation_data.proofs.load_waits.Goals as goal

pub returns-then-low-eq0 : goal.returns-then-low-eq0
unfolding load_waits
returns-then-low-eq0 c = simp (eq-eqb _ _ c.if-low-eq0.true)

pub returns : goal.returns
unfolding load_waits
returns c = simp (ne_eqb _ _ c.if-low-eq0.false, ← c.at_or.ensures)
