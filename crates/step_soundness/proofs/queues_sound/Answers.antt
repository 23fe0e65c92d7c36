use Rattle.std.proofs.Common.{sym, ◌∙◌, drop_of_length-le, arith}
use Rattle.step_soundness.proofs.Loops.{next_of_lem, queues_tested, goes, fails, ends}
use Rattle.step_soundness.proofs.queues_sound.Goals as goal

pub returns-then-not-queue_sound : goal.returns-then-not-queue_sound
returns-then-not-queue_sound c =
    let l = c.loop-k in
    fails (queues_tested _) (next_of_lem c.args.queues l.k _ (omega arith)) (sym c.queue_sound.ensures ∙ c.if-not-queue_sound.true) l.invariant

pub loop-k-preserved : goal.loop-k-preserved
loop-k-preserved c =
    let l = c.loop-k in
    goes (queues_tested _) (next_of_lem c.args.queues l.k _ (omega arith)) (sym c.queue_sound.ensures ∙ c.if-not-queue_sound.false) l.invariant

pub returns : goal.returns
returns c = let l = c.loop-k in ends (queues_tested _) (drop_of_length-le c.args.queues {i = l.k} (omega arith)) l.invariant
