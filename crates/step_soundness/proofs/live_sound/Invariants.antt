use Rattle.std.proofs.Common.{◌≡◌, ◌*◌, drop}
use Rattle.step_soundness.proofs.Loops.{tested}
use Rattle.step_soundness.proofs.live_sound.Given as goal

abbrev pub invariant-loop-k : goal.invariant-loop-k
invariant-loop-k l = tested (drop l.k l.fn.users.live) (drop (2 * l.k) l.fn.users.queues) l.left ≡ tested l.fn.users.live l.fn.users.queues l.fn.users.count
