use Rattle.run_schedule.specs.Code.Carried.{Looping}
use Rattle.run_next.specs.Code.Running.{left_over}
use Rattle.run_next.specs.Code.Numbers.{cells}
use Rattle.window.specs.Memories.{memory}
use lib.ListN.{length}
use mathlib.Core.Path.{◌≡◌}
use Rattle.run_schedule.proofs.run_items.Given as goal

abbrev pub invariant-loop-i : goal.invariant-loop-i
invariant-loop-i l =
    Looping l.schedule l.i l.spans
    l.initial.carried (cells (memory l.constant_tags l.constant_words) (memory l.initial.register_tags l.initial.register_words) l.program (memory l.initial.data_tags l.initial.data_words))
    l.carried (cells (memory l.constant_tags l.constant_words) (memory l.register_tags l.register_words) l.program (memory l.data_tags l.data_words))
    × (length l.register_tags ≡ length l.initial.register_tags) × (length l.register_words ≡ length l.initial.register_words)
    × (length l.data_tags ≡ length l.initial.data_tags) × (length l.data_words ≡ length l.initial.data_words)

abbrev pub decreases-loop-i : goal.decreases-loop-i
decreases-loop-i l = left_over l.schedule l.i l.carried.queued.next
