use borrow.Author.Tests.{lt-leb, le-leb, lt-ltb, le-ltb}
use Rattle.image.specs.Image.{byte_sound}
use Rattle.image_check.proofs.task_listed.Goals as goal
use Rattle.image_check.proofs.task_listed.Goals.{then-queue_of_byte-before-via-then-queue_of_byte-before, then-queue_of_byte-before-via-else-queue_of_byte-before+then-b-ge32}

pub returns-then-queue_of_byte-before : goal.returns-then-queue_of_byte-before
unfolding byte_sound
returns-then-queue_of_byte-before c =
    elim c.then-queue_of_byte-before.branch [
      | then-queue_of_byte-before-via-then-queue_of_byte-before w ↦ simp (← c.queue_of_byte.ensures, lt-leb _ _ w.if-queue_of_byte-before.true)
      | then-queue_of_byte-before-via-else-queue_of_byte-before+then-b-ge32 w ↦ simp (← c.queue_of_byte.ensures, le-leb _ _ w.if-queue_of_byte-before.false, le-ltb _ _ w.if-b-ge32.true)
    ]

pub returns : goal.returns
unfolding byte_sound
returns c = simp (← c.queue_of_byte.ensures, le-leb _ _ c.if-queue_of_byte-before.false, lt-ltb _ _ c.if-b-ge32.false, c.has_row.ensures)
