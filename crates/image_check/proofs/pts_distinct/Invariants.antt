use Prim.Native.Nat.{◌+◌, ◌-◌, ◌*◌}
use mathlib.Core.Path.{◌≡◌}
use Rattle.step.specs.Soundness.{distinct}
use Rattle.image.specs.Image.{process_length}
use Rattle.image_check.specs.Code.Places.{pts_at}
use Rattle.image_check.proofs.pts_distinct.Given as goal

abbrev pub invariant-loop-i : goal.invariant-loop-i
invariant-loop-i l = distinct (pts_at l.n l.at l.s) ≡ distinct (pts_at (l.n - l.i) (l.at + process_length * l.i) l.s)
