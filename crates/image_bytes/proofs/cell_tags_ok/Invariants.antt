use Prim.Native.Nat.{◌+◌, ◌-◌, ◌*◌, ◌≤◌}
use mathlib.Core.Bool.{◌&&◌}
use mathlib.Core.Path.{◌≡◌}
use lib.ListN.{length}
use Rattle.image.specs.Image.{cell_length, word_length}
use Rattle.step.specs.Soundness.{every}
use Rattle.image_bytes.specs.Code.Reading.{tags_at}
use Rattle.image_bytes.specs.Code.Scanning.{tag_test}
use Rattle.image_bytes.proofs.cell_tags_ok.Given as goal

abbrev pub invariant-loop-i : goal.invariant-loop-i
invariant-loop-i l = record {
  inside : cell_length * (l.n - l.i) ≤ (length l.s - (l.at + cell_length * l.i)) + word_length;
  so_far : (l.good && every (tag_test l.kind) (tags_at (l.n - l.i) (l.at + cell_length * l.i) l.s)) ≡ every (tag_test l.kind) (tags_at l.n l.at l.s);
}
