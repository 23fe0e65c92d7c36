use mathlib.Core.Path.{refl}
use Rattle.operation_control.proofs.creates.Goals as goal

pub returns : goal.returns
returns c = (refl, simp (c.set_at-2.ensures, c.set_at.ensures))
