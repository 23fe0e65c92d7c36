use Rattle.operation_control.proofs.branch_psw.Goals as goal

pub returns-then-holds : goal.returns-then-holds
returns-then-holds c = simp (← c.branched_psw.ensures, c.if-holds.true, ← c.holds.ensures)

pub returns : goal.returns
returns c = simp (← c.next.ensures, c.if-holds.false, ← c.holds.ensures)
