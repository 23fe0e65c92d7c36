use Rattle.std.proofs.Common.{◌≡◌, ℕ, ◌≤◌, length, get_or, take}
use Rattle.step.specs.State.{no_queue}
use Rattle.step.specs.Queues.{places, live_counts}
use Rattle.step_queue.proofs.live_counts.Given as goal

abbrev pub invariant-loop-k : goal.invariant-loop-k
invariant-loop-k l = (length l.count-items ≡ 8) × (((j : ℕ) → (get_or l.queues j no_queue).len ≤ places) → take l.k l.count-items ≡ take l.k (live_counts l.queues))
