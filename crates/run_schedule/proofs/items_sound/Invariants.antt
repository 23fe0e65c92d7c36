use Rattle.run.specs.Schedule.{item_sound}
use Rattle.step.specs.Soundness.{every}
use lib.ListN.{drop}
use mathlib.Core.Path.{◌≡◌}
use mathlib.Core.Bool.{◌&&◌}
use Rattle.run_schedule.proofs.items_sound.Given as goal

abbrev pub invariant-loop-t : goal.invariant-loop-t
invariant-loop-t l = (l.good && every item_sound (drop l.t-index l.schedule)) ≡ every item_sound l.schedule
