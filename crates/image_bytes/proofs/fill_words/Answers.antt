use Prim.Native.Nat.{◌-◌, ◌*◌, ◌≤◌}
use lib.ListN.{length}
use Rattle.image.specs.Image.{word_length}
use Rattle.image_bytes.proofs.Filling.{step, done, words_filled, words_stay}
use native.Mathlib.Omega.{arith}
use Rattle.image_bytes.proofs.fill_words.Goals as goal

pub returns-then-saturating_sub-words : goal.returns-then-saturating_sub-words
returns-then-saturating_sub-words c = let a = c.args in words_stay a.at a.s.now a.words.now (omega (arith, c.saturating_sub.ensures, c.if-saturating_sub-words.true))

pub loop-i-preserved : goal.loop-i-preserved
loop-i-preserved c = step _ _ _ _ _ _ _ _ c.loop-i.invariant (omega arith) (omega arith) c.word_at.ensures

pub returns : goal.returns
returns c =
    let a = c.args in
    let h : word_length * length a.words.now ≤ length a.s.now - a.at = omega (arith, c.saturating_sub.ensures, c.if-saturating_sub-words.false) in
    words_filled a.at a.s.now a.words.now h (done _ _ _ _ _ _ _ _ c.loop-i.invariant (omega arith))
