use Rattle.operation_checks.proofs.waits_d.Goals as goal

pub returns : goal.returns
returns c = simp (← c.waits.ensures, ← c.at_or.ensures, ← c.access.ensures)
