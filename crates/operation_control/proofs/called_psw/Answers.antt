use Rattle.operation.specs.Perform.{called}
use Rattle.operation_control.proofs.called_psw.Goals as goal

pub returns : goal.returns
unfolding called
returns c = simp (← c.psw.ensures, ← c.pc.ensures, ← c.utm.ensures, ← c.ri.ensures, ← c.ci.ensures)
