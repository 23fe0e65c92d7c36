use Rattle.std.proofs.Common.{sym, ◌∙◌}
use Rattle.hep_c.specs.Answers.{unless_refused}
use Rattle.hep_c.specs.Laws.Fitting.{too_long, out_of_range, schedule_fine}
use Rattle.hep_c.proofs.check_schedule.Goals as goal

pub returns-then-schedule-gt-MOST_ITEMS : goal.returns-then-schedule-gt-MOST_ITEMS
unfolding unless_refused
returns-then-schedule-gt-MOST_ITEMS c = rw (too_long _ c.if-schedule-gt-MOST_ITEMS.true)

pub returns-then-not-items_sound : goal.returns-then-not-items_sound
unfolding unless_refused
returns-then-not-items_sound c = rw (out_of_range _ c.if-schedule-gt-MOST_ITEMS.false (sym c.items_sound.ensures ∙ c.if-not-items_sound.true))

pub returns : goal.returns
unfolding unless_refused
returns c = rw (schedule_fine _ c.if-schedule-gt-MOST_ITEMS.false (sym c.items_sound.ensures ∙ c.if-not-items_sound.false))
