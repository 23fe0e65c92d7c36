use Rattle.std.proofs.Common.{◌≡◌, ◌∙◌, ◌+◌, ◌*◌, length, length-set, rules, arith}
use Rattle.step_queue.proofs.Counts.{counts_go, counts_full}
use Rattle.step_queue.proofs.live_counts.Goals as goal

pub loop-k-preserved : goal.loop-k-preserved
loop-k-preserved c =
    let l = c.loop-k in
    let f : length c.args.queues ≡ 16 = search rules in (
      length-set l.count-items l.k _ ∙ l.invariant.0,
      λ h. counts_go _ l.count-items l.k _ (omega arith) (omega arith) (c.together.ensures (h (2 * l.k)) (h (2 * l.k + 1))) (l.invariant.1 h),
    )

pub returns : goal.returns
returns c =
    let l = c.loop-k in
    let f : length c.args.queues ≡ 16 = search rules in
    λ h. counts_full _ l.count-items l.k (omega arith) (omega arith) (l.invariant.1 h)
