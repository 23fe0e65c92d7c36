use Rattle.run_next.specs.Code.Stands.{Laid}
use Rattle.run_schedule.specs.Code.Queued.{all_queues}
use lib.ListN.{length}
use mathlib.Core.Path.{◌≡◌}
use Rattle.run_schedule.proofs.next.laid.Given as goal

abbrev pub invariant-loop-t : goal.invariant-loop-t
invariant-loop-t l = Laid l.t l.kinds l.next (all_queues l.rings) × (length l.next ≡ 8)
