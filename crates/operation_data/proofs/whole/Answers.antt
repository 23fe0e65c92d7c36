use borrow.Author.Tests.{eq-eqb, ne_eqb}
use Rattle.operation_data.specs.Code.Reached.{whole_word}
use Rattle.operation_data.proofs.whole.Goals as goal

pub returns-then-low-eq1 : goal.returns-then-low-eq1
unfolding whole_word
returns-then-low-eq1 c = simp (eq-eqb _ _ c.if-low-eq1.true)

pub returns : goal.returns
unfolding whole_word
returns c = simp (ne_eqb _ _ c.if-low-eq1.false)
