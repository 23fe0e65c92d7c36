use mathlib.Core.Path.{sym, ◌∙◌}
use borrow.Author.Tests.{le-leb, lt-leb}
use Rattle.step.specs.Soundness.{sound}
use Rattle.step_soundness.specs.Code.Held.{state_in, sound_in}
use Rattle.step_soundness.proofs.sound.Goals as goal

pub returns-then-n-gt-TASKS : goal.returns-then-n-gt-TASKS
unfolding sound_in
returns-then-n-gt-TASKS c = simp (lt-leb _ _ c.if-n-gt-TASKS.true)

pub returns-then-not-rows_sound : goal.returns-then-not-rows_sound
unfolding sound_in sound state_in
returns-then-not-rows_sound c = let r = c.rows_sound in simp (le-leb _ _ c.if-n-gt-TASKS.false, sym r.ensures ∙ c.if-not-rows_sound.true)

pub returns-then-not-table_sound : goal.returns-then-not-table_sound
unfolding sound_in sound state_in
returns-then-not-table_sound c = let r = c.rows_sound in let t = c.table_sound in simp (le-leb _ _ c.if-n-gt-TASKS.false, sym r.ensures ∙ c.if-not-rows_sound.false, sym t.ensures ∙ c.if-not-table_sound.true)

pub returns-then-not-memories_sound : goal.returns-then-not-memories_sound
unfolding sound_in sound state_in
returns-then-not-memories_sound c = let a = c.args in let r = c.rows_sound in let t = c.table_sound in let m = c.memories_sound in simp (le-leb _ _ c.if-n-gt-TASKS.false, sym r.ensures ∙ c.if-not-rows_sound.false, sym t.ensures ∙ c.if-not-table_sound.false, sym (m.ensures a.rows a.n a.table) ∙ c.if-not-memories_sound.true)

pub returns : goal.returns
unfolding sound_in sound state_in
returns c = let a = c.args in let r = c.rows_sound in let t = c.table_sound in let m = c.memories_sound in simp (le-leb _ _ c.if-n-gt-TASKS.false, sym r.ensures ∙ c.if-not-rows_sound.false, sym t.ensures ∙ c.if-not-table_sound.false, sym (m.ensures a.rows a.n a.table) ∙ c.if-not-memories_sound.false, ← c.windows_sound.ensures)
