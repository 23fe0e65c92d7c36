use Rattle.std.proofs.Common.{refl, arith}
use Rattle.step_soundness.proofs.Seeing.{ring_starts, ring_goes, ring_fails, ring_ends, marks, fresh_read}
use Rattle.step_soundness.proofs.see_queue.Goals as goal

pub loop-init : goal.loop-init
loop-init c = (omega arith, ring_starts _ c.args.q c.args.marked)

pub returns-then-not-is_fresh : goal.returns-then-not-is_fresh
returns-then-not-is_fresh c =
    let l = c.loop in
    ring_fails _ _ _ _ _ _ l.invariant.0 (omega arith) l.invariant.1 (fresh_read _ _ _ c.is_fresh.ensures c.if-not-is_fresh.true)

pub loop-preserved : goal.loop-preserved
loop-preserved c =
    let l = c.loop in
    let f = c.is_fresh.ensures in (
      omega arith,
      ring_goes _ _ _ _ _ _ l.invariant.0 (omega arith) l.invariant.1 _ (fresh_read _ _ _ f c.if-not-is_fresh.false) (marks _ _ _ f c.if-not-is_fresh.false refl),
    )

pub returns : goal.returns
returns c = ring_ends _ _ _ _ _ _ (omega arith) c.loop.invariant.1
