use Prim.Native.Nat.{◌+◌, ◌-◌}
use mathlib.Core.Path.{◌≡◌}
use native.Mathlib.Nat.{sub-zero}
use native.Mathlib.Omega.{arith}
use Rattle.image_write.proofs.Going.{start, spelled, ends, place_ends}
use Rattle.image_write.proofs.Parts.{ring_starts, ring_none, queue_length, ring_room, ring_goes}
use Rattle.image_write.proofs.put_queue.Goals as goal

pub loop-turn-init : goal.loop-turn-init
loop-turn-init c =
    (omega arith, rw sub-zero (spelled _ _ _ (start _ _ _ (omega (arith, c.requires, queue_length c.args.psw c.args.k c.args.q))) (ring_starts _ _ _)))

pub put_process-requires : goal.put_process-requires
put_process-requires c = ring_room _ _ _ _ _ c.loop-turn.invariant.1 c.loop-turn.invariant.0 (omega arith)

pub loop-turn-preserved : goal.loop-turn-preserved
loop-turn-preserved c =
    let n = c.args.q.len in
    let i = c.loop-turn._turn in
    let e : n - (i + 1) ≡ n - i - 1 = omega arith in
    (omega arith, rw e (ring_goes _ _ _ _ _ c.loop-turn.invariant.1 c.loop-turn.invariant.0 (omega arith) _ (rw c.from.ensures at c.at_or.ensures) c.put_process.ensures))

pub returns : goal.returns
returns c = let d = ring_none c.args.psw c.args.k c.args.q.pts c.loop-turn.head (c.args.q.len - c.loop-turn._turn) (omega arith) in record { value = place_ends _ _ _ c.loop-turn.invariant.1 d; output_after = ends _ _ _ c.loop-turn.invariant.1 d }
