use borrow.Author.Tests.{le-leb, lt-leb}
use Rattle.window.specs.Sound.{quality_sound, tag_sound, state_sound}
use Rattle.image_bytes.specs.Code.Scanning.{tag_test}
use Rattle.image_bytes.proofs.tag_ok.Goals as goal

pub returns-in-Constant : goal.returns-in-Constant
unfolding tag_test quality_sound
returns-in-Constant c = simp c.in-Constant.is

pub returns-then-t-le6 : goal.returns-then-t-le6
unfolding tag_test tag_sound
returns-then-t-le6 c = simp (c.in-Register.is, le-leb _ _ c.if-t-le6.true)

pub returns-then-t-ge8 : goal.returns-then-t-ge8
unfolding tag_test tag_sound
returns-then-t-ge8 c = simp (c.in-Register.is, lt-leb _ _ c.if-t-le6.false, le-leb _ _ c.if-t-ge8.true)

pub returns-else-t-ge8 : goal.returns-else-t-ge8
unfolding tag_test tag_sound
returns-else-t-ge8 c = simp (c.in-Register.is, lt-leb _ _ c.if-t-le6.false, lt-leb _ _ c.if-t-ge8.false)

pub returns-in-Data : goal.returns-in-Data
unfolding tag_test state_sound
returns-in-Data c = simp c.in-Data.is
