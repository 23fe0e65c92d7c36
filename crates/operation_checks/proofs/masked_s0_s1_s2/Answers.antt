use Rattle.operation_checks.proofs.masked_s0_s1_s2.Goals as goal

pub returns-then-masked : goal.returns-then-masked
returns-then-masked c = simp (c.if-masked.true, ← c.masked.ensures)

pub returns : goal.returns
returns c = simp (← c.masked_s1_s2.ensures, c.if-masked.false, ← c.masked.ensures)
