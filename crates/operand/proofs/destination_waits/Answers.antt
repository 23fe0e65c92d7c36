use borrow.Author.Tests.{eq-eqb, ne_eqb}
use Rattle.operand.specs.Laws.Access.{destination_waits_by}
use Rattle.operand.proofs.destination_waits.Goals as goal

pub returns-then-ac-eq0 : goal.returns-then-ac-eq0
returns-then-ac-eq0 c = simp (destination_waits_by, eq-eqb _ _ c.if-ac-eq0.true)

pub returns-then-ac-eq1 : goal.returns-then-ac-eq1
returns-then-ac-eq1 c = simp (destination_waits_by, eq-eqb _ _ c.if-ac-eq1.true, ne_eqb _ _ c.if-ac-eq0.false)

pub returns : goal.returns
returns c = simp (destination_waits_by, ne_eqb _ _ c.if-ac-eq1.false, ne_eqb _ _ c.if-ac-eq0.false)
