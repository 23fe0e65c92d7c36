use Prim.Native.Nat.{◌+◌, ◌*◌}
use Rattle.image.specs.Image.{cell_length}
use Rattle.image_bytes.proofs.Putting.{PuttingCells}
use Rattle.image_bytes.proofs.put_cells.Given as goal

abbrev pub invariant-loop-i : goal.invariant-loop-i
invariant-loop-i l = PuttingCells l.at l.tags l.words l.initial.out l.out (l.at + cell_length * l.i) l.i
