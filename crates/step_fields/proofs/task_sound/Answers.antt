use borrow.Author.Tests.{lt-ltb, le-ltb}
use Rattle.step.specs.Soundness.{task_sound}
use Rattle.step_fields.proofs.task_sound.Goals as goal

pub returns-then-before-t : goal.returns-then-before-t
unfolding task_sound
returns-then-before-t c = simp (lt-ltb _ _ c.if-before-t.true)

pub returns-else-before-t : goal.returns-else-before-t
unfolding task_sound
returns-else-before-t c = simp (le-ltb _ _ c.if-before-t.false)
