use borrow.Author.Tests.{eq-eqb, ne_eqb}
use Rattle.operand.specs.Laws.Access.{source_waits_by}
use Rattle.operand.proofs.source_waits.Goals as goal

pub returns-then-ac-eq0 : goal.returns-then-ac-eq0
returns-then-ac-eq0 c = simp (source_waits_by, eq-eqb _ _ c.if-ac-eq0.true)

pub returns-then-ac-eq3 : goal.returns-then-ac-eq3
returns-then-ac-eq3 c = simp (source_waits_by, eq-eqb _ _ c.if-ac-eq3.true, ne_eqb _ _ c.if-ac-eq0.false)

pub returns : goal.returns
returns c = simp (source_waits_by, ne_eqb _ _ c.if-ac-eq3.false, ne_eqb _ _ c.if-ac-eq0.false)
