use Rattle.step_queue.specs.Laws.Digits.{digit_le}
use Rattle.step_queue.specs.Code.Mask.{without}
use Rattle.word.proofs.Computed.{shifted_one}
use borrow.Author.Tests.{le-leb, lt-leb, eq-eqb, ne_eqb}
use Rattle.step_queue.proofs.without.Goals as goal

pub returns-then-pt-ge-FIRST_NO_PT : goal.returns-then-pt-ge-FIRST_NO_PT
unfolding without
returns-then-pt-ge-FIRST_NO_PT c = simp (le-leb _ _ c.if-pt-ge-FIRST_NO_PT.true)

pub returns-then-free-pt-eq0 : goal.returns-then-free-pt-eq0
unfolding without
returns-then-free-pt-eq0 c = simp (lt-leb _ _ c.if-pt-ge-FIRST_NO_PT.false, eq-eqb _ _ c.if-free-pt-eq0.true)

pub returns : goal.returns
unfolding without
returns c = simp (lt-leb _ _ c.if-pt-ge-FIRST_NO_PT.false, ne_eqb _ _ c.if-free-pt-eq0.false, shifted_one _ c.if-pt-ge-FIRST_NO_PT.false)
