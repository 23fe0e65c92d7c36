use Rattle.operation_checks.proofs.plain_two.Goals as goal

pub returns-then-plain : goal.returns-then-plain
returns-then-plain c = simp (← c.plain-then-plain.ensures, c.if-plain.true, ← c.plain.ensures)

pub returns : goal.returns
returns c = simp (c.if-plain.false, ← c.plain.ensures)
