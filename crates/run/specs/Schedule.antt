-- Which schedules are accepted.
use Rattle.std.specs.Prelude.{ℕ, Bool, true, false, cond, not, ◌&&◌, List, leb, ltb, length, Option, None, Some}
use Rattle.refusal.specs.declared.Refusal.{Refusal}
use Rattle.refusal.specs.declared.Refusal.TheVariants.{ListTooLong, ItemOutOfRange}
use Rattle.step.specs.Soundness.{every}
use Rattle.window.specs.Limits.{tasks}

-- an item is a task number 1 to 7
unfoldable pub item_sound : ℕ → Bool
item_sound t = leb 1 t && leb t tasks

-- the most items of a schedule
abbrev pub most_items : ℕ
most_items = 65535

-- why a schedule is refused: 9, then 10
unfoldable pub schedule_refusal : List ℕ → Option Refusal
schedule_refusal schedule =
    cond (ltb most_items (length schedule)) (Some ListTooLong)
    (cond (not (every item_sound schedule)) (Some ItemOutOfRange)
    None)

unfoldable pub accepts : Option Refusal → Bool
accepts None = true
accepts (Some e) = false

-- a schedule is accepted if neither 9 nor 10 applies
unfoldable pub schedule_sound : List ℕ → Bool
schedule_sound schedule = accepts (schedule_refusal schedule)
