use native.Mathlib.Nat.{div-one}
use Rattle.operation.specs.Perform.{created}
use Rattle.operation_control.proofs.created_fields.Goals as goal

pub returns : goal.returns
unfolding created
returns c = simp (div-one, ← c.psw.ensures, ← c.taken_field-pc.ensures, ← c.pc-2.ensures, ← c.pc.ensures, ← c.taken_field-utm.ensures, ← c.utm-2.ensures, ← c.utm.ensures, ← c.taken_field-ri.ensures, ← c.ri-2.ensures, ← c.ri.ensures, ← c.taken_field-ci.ensures, ← c.ci-2.ensures, ← c.ci.ensures)
