use Rattle.step_queue.specs.Code.Mask.{free_after}
use Rattle.step.specs.Queues.{ring, list_of}
use Rattle.std.proofs.Common.{◌≡◌, ◌<◌, ◌-◌}
use Rattle.step_queue.proofs.free_after.Given as goal

abbrev pub invariant-loop : goal.invariant-loop
invariant-loop l = (l.at < 64) × (free_after (ring l.q.pts l.at (l.q.len - l.counter)) l.free ≡ free_after (list_of l.q) l.free-2)
