use Rattle.operation_checks.proofs.waits_source.Goals as goal

pub returns : goal.returns
returns c = simp (← c.waits.ensures, ← c.access.ensures)
