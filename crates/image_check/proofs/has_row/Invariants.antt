use Prim.Native.Nat.{◌+◌, ◌-◌, ◌*◌}
use mathlib.Core.Path.{◌≡◌}
use Rattle.step.specs.Soundness.{has_row}
use Rattle.image.specs.Image.{row_length}
use Rattle.image_check.specs.Code.Places.{rows_at}
use Rattle.image_check.proofs.Loops.{rows_from}
use Rattle.image_check.proofs.has_row.Given as goal

abbrev pub invariant-loop-i : goal.invariant-loop-i
invariant-loop-i l = has_row l.t (rows_at l.n l.s) ≡ has_row l.t (rows_from (l.n - l.i) (1 + row_length * l.i) l.s)
