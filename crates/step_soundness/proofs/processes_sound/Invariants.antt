use Rattle.std.proofs.Common.{◌≡◌, drop}
use Rattle.step.specs.Queues.{live_pts}
use Rattle.step_soundness.specs.Code.Seen.{seen_after}
use Rattle.step_soundness.proofs.processes_sound.Given as goal

abbrev pub invariant-loop-q : goal.invariant-loop-q
invariant-loop-q l = seen_after l.psw (live_pts (drop l.q-index l.fn.queues)) l.marked ≡ seen_after l.psw (live_pts l.fn.queues) l.initial.marked
