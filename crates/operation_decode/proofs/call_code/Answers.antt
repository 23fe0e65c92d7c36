use Rattle.operation.specs.Codes.{call_of}
use borrow.Author.Tests.{eq-eqb, ne_eqb}
use Rattle.operation_decode.proofs.call_code.Goals as goal

pub returns-then-low-eq1 : goal.returns-then-low-eq1
unfolding call_of
returns-then-low-eq1 c = simp (eq-eqb _ _ c.if-low-eq1.true)

pub returns-else-low-eq1 : goal.returns-else-low-eq1
unfolding call_of
returns-else-low-eq1 c = simp (ne_eqb _ _ c.if-low-eq1.false)
