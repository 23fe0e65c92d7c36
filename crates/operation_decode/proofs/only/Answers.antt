use borrow.Author.Tests.{eq-eqb, ne_eqb}
use Rattle.operation_decode.proofs.only.Goals as goal

pub returns-then-low-key : goal.returns-then-low-key
returns-then-low-key c = simp (eq-eqb _ _ c.if-low-key.true)

pub returns-else-low-key : goal.returns-else-low-key
returns-else-low-key c = simp (ne_eqb _ _ c.if-low-key.false)
