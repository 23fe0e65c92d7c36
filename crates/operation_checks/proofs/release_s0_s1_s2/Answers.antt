use Rattle.operation_checks.proofs.release_s0_s1_s2.Goals as goal

pub returns : goal.returns
returns c = simp (← c.release_s1_s2.ensures, ← c.release.ensures)
