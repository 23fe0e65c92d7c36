use Rattle.operation_checks.proofs.sources_wait.Goals as goal

pub returns-then-waits_source : goal.returns-then-waits_source
returns-then-waits_source c = simp (c.if-waits_source.true, ← c.waits_source.ensures)

pub returns : goal.returns
returns c = simp (← c.waits_source-2.ensures, c.if-waits_source.false, ← c.waits_source.ensures)
