use borrow.Author.Tests.{lt-ltb, lt-leb, le-leb}
use Rattle.step.specs.Soundness.{total_sound}
use Rattle.step_fields.proofs.total_sound.Goals as goal

pub returns-then-live-lt-TOTAL : goal.returns-then-live-lt-TOTAL
unfolding total_sound
returns-then-live-lt-TOTAL c = simp (lt-ltb _ 64 c.if-live-lt-TOTAL.true, lt-leb 64 _ c.if-live-lt-TOTAL.true)

pub returns-else-live-lt-TOTAL : goal.returns-else-live-lt-TOTAL
unfolding total_sound
returns-else-live-lt-TOTAL c = simp (le-leb 64 _ c.if-live-lt-TOTAL.false)
