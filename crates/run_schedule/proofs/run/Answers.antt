use mathlib.Core.Path.{refl, sym, ◌∙◌}
use Rattle.library.proofs.Laws.Held.{before}
use Rattle.run_schedule.specs.Laws.Answers.{unsound, too_long, out_of_range}
use Rattle.run_schedule.proofs.run.Goals as goal

pub returns-then-refused : goal.returns-then-refused
returns-then-refused c = let a = c.args in rw c.refused-then-refused.ensures (unsound a.n (before a.rows a.table a.constant_tags.now a.constant_words.now a.register_tags.now a.register_words.now a.program.now a.data_tags.now a.data_words.now) a.schedule.now (sym c.refused.ensures ∙ c.if-refused.true), record { count = refl; places = c.well_formed.0.1.1.0.1.0.1; beyond = refl })

pub returns-then-schedule-gt-MOST_ITEMS : goal.returns-then-schedule-gt-MOST_ITEMS
returns-then-schedule-gt-MOST_ITEMS c = let a = c.args in rw c.refused-then-schedule-gt-MOST_ITEMS.ensures (too_long a.n (before a.rows a.table a.constant_tags.now a.constant_words.now a.register_tags.now a.register_words.now a.program.now a.data_tags.now a.data_words.now) a.schedule.now (sym c.refused.ensures ∙ c.if-refused.false) c.if-schedule-gt-MOST_ITEMS.true, record { count = refl; places = c.well_formed.0.1.1.0.1.0.1; beyond = refl })

pub returns-then-not-items_sound : goal.returns-then-not-items_sound
returns-then-not-items_sound c = let a = c.args in rw c.refused-then-not-items_sound.ensures (out_of_range a.n (before a.rows a.table a.constant_tags.now a.constant_words.now a.register_tags.now a.register_words.now a.program.now a.data_tags.now a.data_words.now) a.schedule.now (sym c.refused.ensures ∙ c.if-refused.false) c.if-schedule-gt-MOST_ITEMS.false (sym c.items_sound.ensures ∙ c.if-not-items_sound.true), record { count = refl; places = c.well_formed.0.1.1.0.1.0.1; beyond = refl })

pub run_cut-requires : goal.run_cut-requires
run_cut-requires c = (sym c.refused.ensures ∙ c.if-refused.false, c.if-schedule-gt-MOST_ITEMS.false, (sym c.items_sound.ensures ∙ c.if-not-items_sound.false))

pub returns : goal.returns
returns c = c.run_cut.ensures
