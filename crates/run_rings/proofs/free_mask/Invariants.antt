use Rattle.std.proofs.Common.{◌≡◌, drop}
use Rattle.step.specs.Queues.{live_pts}
use Rattle.step_queue.specs.Code.Mask.{free_after}
use Rattle.run_rings.specs.Code.Mask.{free_word}
use Rattle.run_rings.proofs.free_mask.Given as goal

abbrev pub invariant-loop-q : goal.invariant-loop-q
invariant-loop-q l = free_after (live_pts (drop l.q-index l.fn.queues)) l.free ≡ free_word l.fn.queues
