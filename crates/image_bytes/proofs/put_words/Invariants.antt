use Prim.Native.Nat.{◌+◌, ◌*◌}
use Rattle.image.specs.Image.{word_codec, word_length}
use Rattle.image_bytes.specs.Laws.Bytes.{word_length_lem}
use Rattle.image_bytes.proofs.Putting.{Putting}
use Rattle.image_bytes.proofs.put_words.Given as goal

abbrev pub invariant-loop-i : goal.invariant-loop-i
invariant-loop-i l = Putting word_codec word_length word_length_lem l.at l.words l.initial.out l.out (l.at + word_length * l.i) l.i
