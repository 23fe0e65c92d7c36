use native.Mathlib.Omega.{arith}
use Rattle.image.specs.Image.{processes_from}
use Rattle.image_write.proofs.Going.{start, ends, place_ends}
use Rattle.image_write.proofs.Parts.{processes_length_lem, from_length, queues_none, queues_room, queues_go}
use Rattle.image_write.proofs.put_queues.Goals as goal

pub loop-k-init : goal.loop-k-init
loop-k-init c =
    let a = c.args in
    start _ _ _ (omega (arith, c.requires, processes_length_lem (processes_from a.psw 0 a.queues), from_length a.psw 0 a.queues))

pub put_queue-p-requires : goal.put_queue-p-requires
put_queue-p-requires c = queues_room _ _ c.args.queues c.loop-k.k c.loop-k.invariant (omega arith)

pub loop-k-preserved : goal.loop-k-preserved
loop-k-preserved c =
    queues_go _ _ c.args.queues c.loop-k.k c.loop-k.invariant (omega arith) c.put_queue-p.ensures.value c.put_queue-p.ensures.output_after

pub returns : goal.returns
returns c = let d = queues_none c.args.psw _ c.args.queues c.loop-k.k (omega arith) in record { value = place_ends _ _ _ c.loop-k.invariant d; output_after = ends _ _ _ c.loop-k.invariant d }
