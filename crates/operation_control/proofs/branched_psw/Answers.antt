use Rattle.operation.specs.Perform.{branched}
use Rattle.operation_control.proofs.branched_psw.Goals as goal

pub returns : goal.returns
unfolding branched
returns c = simp (← c.psw.ensures, ← c.pc.ensures, ← c.utm-2.ensures, ← c.utm.ensures, ← c.ri-2.ensures, ← c.ri.ensures, ← c.ci-2.ensures, ← c.ci.ensures)
