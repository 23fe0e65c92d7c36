use mathlib.Core.Path.{refl, sym, subst}
use mathlib.Core.List.{List}
use Rattle.step.specs.declared.Queue.{Queue}
use lib.ListN.{get_or}
use Prim.Native.Nat.{◌≤◌}
use Rattle.step.specs.Queues.{places}
use Rattle.step.specs.State.{no_queue}
use Rattle.run_schedule.specs.Code.Carried.{users_of}
use Rattle.run_schedule.proofs.users_of.Goals as goal

pub returns : goal.returns
unfolding users_of
returns c = rw (c.without_fresh.ensures, c.live_counts.ensures (subst (λ (qs : List Queue). (k : _) → (get_or qs k no_queue).len ≤ places) (sym c.queues_of-queues.ensures) c.requires), c.queues_of-queues.ensures) refl
