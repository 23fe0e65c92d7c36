use Rattle.std.proofs.Common.{◌≡◌, ◌-◌, ◌<◌}
use Rattle.step.specs.Queues.{ring, list_of}
use Rattle.step_soundness.specs.Code.Seen.{seen_after}
use Rattle.step_soundness.proofs.see_queue.Given as goal

abbrev pub invariant-loop : goal.invariant-loop
invariant-loop l = (l.at < 64) × (seen_after l.psw (ring l.q.pts l.at (l.q.len - l.counter)) l.marked ≡ seen_after l.psw (list_of l.q) l.initial.marked)
