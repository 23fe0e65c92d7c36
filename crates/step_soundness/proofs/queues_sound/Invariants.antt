use Rattle.std.proofs.Common.{◌≡◌, drop}
use Rattle.step.specs.Soundness.{queues_sound}
use Rattle.step_soundness.proofs.queues_sound.Given as goal

abbrev pub invariant-loop-k : goal.invariant-loop-k
invariant-loop-k l = queues_sound l.rows l.k (drop l.k l.fn.queues) ≡ queues_sound l.rows 0 l.fn.queues
