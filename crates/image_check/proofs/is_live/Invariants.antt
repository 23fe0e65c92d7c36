use Prim.Native.Nat.{◌+◌, ◌-◌, ◌*◌}
use mathlib.Core.Path.{◌≡◌}
use Rattle.step.specs.Queues.{occ}
use Rattle.image.specs.Image.{process_length}
use Rattle.image_check.specs.Code.Places.{pts_at}
use Rattle.image_check.proofs.is_live.Given as goal

abbrev pub invariant-loop-i : goal.invariant-loop-i
invariant-loop-i l = occ l.x (pts_at l.n l.at l.s) ≡ occ l.x (pts_at (l.n - l.i) (l.at + process_length * l.i) l.s)
