use borrow.Author.Tests.{lt-ltb, le-ltb}
use Rattle.step.specs.Soundness.{ends_in}
use Rattle.step_fields.proofs.ends_in.Goals as goal

pub returns-then-w : goal.returns-then-w
unfolding ends_in
returns-then-w c = simp (lt-ltb _ _ c.if-w.true)

pub returns-else-w : goal.returns-else-w
unfolding ends_in
returns-else-w c = simp (le-ltb _ _ c.if-w.false)
