use Prim.Native.Nat.{◌+◌, ◌*◌}
use lib.ListN.{length}
use Rattle.image.specs.Image.{word_length}
use Rattle.image_bytes.specs.Code.Reading.{field_at}
use Rattle.image_bytes.proofs.Filling.{Filling}
use Rattle.image_bytes.proofs.fill_words.Given as goal

abbrev pub invariant-loop-i : goal.invariant-loop-i
invariant-loop-i l = Filling word_length (λ p. field_at word_length p l.s) (length l.s) l.at (length l.initial.words) l.words (l.at + word_length * l.i) l.i
