use Rattle.operation.specs.Codes.{quit_of}
use borrow.Author.Tests.{eq-eqb, ne_eqb}
use Rattle.operation_decode.proofs.quit_code.Goals as goal

pub returns-then-low-eq0 : goal.returns-then-low-eq0
unfolding quit_of
returns-then-low-eq0 c = simp (eq-eqb _ _ c.if-low-eq0.true)

pub returns-else-low-eq0 : goal.returns-else-low-eq0
unfolding quit_of
returns-else-low-eq0 c = simp (ne_eqb _ _ c.if-low-eq0.false)
