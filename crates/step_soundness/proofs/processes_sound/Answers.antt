use Rattle.std.proofs.Common.{is_some, sym, ap, ◌∙◌, arith}
use Rattle.step_soundness.proofs.Seeing.{queues_go, queues_fail, queues_end, seen_sound}
use Rattle.step_soundness.proofs.processes_sound.Goals as goal

pub returns-in_default : goal.returns-in_default
returns-in_default c =
    let l = c.loop-q in
    ap is_some (queues_fail _ c.args.queues l.q-index _ (omega arith) l.invariant (sym c.see_queue.ensures ∙ c.in_default.is)) ∙ seen_sound _ _

pub loop-q-preserved : goal.loop-q-preserved
loop-q-preserved c =
    let l = c.loop-q in
    queues_go _ c.args.queues l.q-index _ (omega arith) l.invariant _ (sym c.see_queue.ensures ∙ c.in-Some.is)

pub returns : goal.returns
returns c = let l = c.loop-q in ap is_some (queues_end _ c.args.queues l.q-index _ _ (omega arith) l.invariant) ∙ seen_sound _ _
