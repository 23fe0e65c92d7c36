use Prim.Native.Nat.{◌+◌, ◌*◌}
use lib.ListN.{length}
use Rattle.image.specs.Image.{cell_length, word_length}
use Rattle.image_bytes.specs.Code.Reading.{field_at}
use Rattle.image_bytes.proofs.Filling.{Filling}
use Rattle.image_bytes.proofs.fill_cells.Given as goal

abbrev pub invariant-loop-i : goal.invariant-loop-i
invariant-loop-i l = record {
  tags : Filling cell_length (λ p. field_at 1 p l.s) (length l.s) l.at l.n l.tags (l.at + cell_length * l.i) l.i;
  words : Filling cell_length (λ p. field_at word_length (p + 1) l.s) (length l.s) l.at l.n l.words (l.at + cell_length * l.i) l.i;
}
