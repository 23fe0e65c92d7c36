use Prim.Native.Nat.{◌<◌}
use mathlib.Core.Path.{sym, ap, ◌∙◌}
use native.Mathlib.Omega.{arith}
use Rattle.image.specs.Image.{queue_of_byte}
use Rattle.image_bytes.specs.Code.Reading.{number_at}
use Rattle.image_read.proofs.Table.{queue_taken, queue_skipped, queue_done}
use Rattle.image_read.proofs.queue_at.Goals as goal
use Rattle.image_read.proofs.queue_at.Goals.{then-queue_of_byte-t, else-queue_of_byte-t}

pub loop-i-preserved : goal.loop-i-preserved
unfolding number_at
loop-i-preserved c =
    let q = c.loop-i.invariant in
    let more : c.loop-i.i < c.args.m = omega arith in
    let named = c.queue_of_byte.ensures ∙ ap queue_of_byte c.number_at.ensures.value in
    elim c.if-queue_of_byte-t.branch [
      | then-queue_of_byte-t w ↦ rw (w.pts-is, w.len-is) (queue_taken _ _ _ _ _ _ _ q c.requires.1 more (sym named ∙ w.if-queue_of_byte-t.true) w.number_at-then-queue_of_byte-t.ensures.value)
      | else-queue_of_byte-t w ↦ rw (w.pts-is, w.len-is) (queue_skipped _ _ _ _ _ _ _ q c.requires.1 more (λ e. w.if-queue_of_byte-t.false (named ∙ e)))
    ]

pub returns : goal.returns
returns c = queue_done _ _ _ _ _ _ _ c.loop-i.invariant c.requires.1 (omega arith)
