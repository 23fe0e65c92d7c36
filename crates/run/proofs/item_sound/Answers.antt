use borrow.Author.Tests.{le-leb, lt-leb}
use Rattle.run.specs.Schedule.{item_sound}
use Rattle.run.proofs.item_sound.Goals as goal

pub returns-then-t-ge1 : goal.returns-then-t-ge1
unfolding item_sound
returns-then-t-ge1 c = simp (le-leb _ _ c.if-t-ge1.true)

pub returns-else-t-ge1 : goal.returns-else-t-ge1
unfolding item_sound
returns-else-t-ge1 c = simp (lt-leb _ _ c.if-t-ge1.false)
