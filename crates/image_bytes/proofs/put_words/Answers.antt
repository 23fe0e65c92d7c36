use Prim.Native.Nat.{◌+◌, ◌*◌, ◌≤◌}
use lib.ListN.{length}
use lib.Seq.{drop-cons}
use Rattle.image.specs.Codec.{num}
use Rattle.image.specs.Image.{word_codec, word_length}
use Rattle.image_bytes.specs.Code.Writing.{word_bytes}
use Rattle.image_bytes.specs.Laws.Bytes.{word_length_lem, word_bytes_length}
use Rattle.image_bytes.specs.Laws.Laid.{put_not}
use Rattle.image_bytes.proofs.Putting.{step, done}
use native.Mathlib.Omega.{arith}
use Rattle.image_bytes.proofs.put_words.Goals as goal

pub returns-then-out-at : goal.returns-then-out-at
returns-then-out-at c = let a = c.args in put_not a.at (word_bytes a.words.now) a.out.now (rw word_bytes_length (omega arith))

pub returns-then-out-at-2 : goal.returns-then-out-at-2
returns-then-out-at-2 c = let a = c.args in put_not a.at (word_bytes a.words.now) a.out.now (rw word_bytes_length (omega arith))

pub loop-i-preserved : goal.loop-i-preserved
unfolding word_codec num
loop-i-preserved c =
    let l = c.loop-i in
    step word_codec word_length word_length_lem _ _ _ l.invariant (omega arith) (omega arith) (drop-cons c.args.words.now l.i 0 (omega arith)) c.put_word.ensures

pub returns : goal.returns
unfolding word_bytes
returns c =
    let a = c.args in
    let h : a.at + word_length * length a.words.now ≤ length a.out.now = omega (arith, c.if-out-at.false, c.if-out-at-2.false) in
    done word_codec word_length word_length_lem _ _ _ c.loop-i.invariant (omega arith) h
