use Rattle.step.specs.Soundness.{row_sound}
use Rattle.step_soundness.proofs.row_sound.Goals as goal

pub returns-then-not-task_sound : goal.returns-then-not-task_sound
unfolding row_sound
returns-then-not-task_sound c = simp (c.if-not-task_sound.true, ← c.task_sound.ensures)

pub returns-then-not-bases_sound : goal.returns-then-not-bases_sound
unfolding row_sound
returns-then-not-bases_sound c =
    let t = c.task_sound in
    let b = c.bases_sound in
    simp (c.if-not-bases_sound.true, ← b.ensures, c.if-not-task_sound.false, ← t.ensures)

pub returns-then-not-kind_sound : goal.returns-then-not-kind_sound
unfolding row_sound
returns-then-not-kind_sound c =
    let t = c.task_sound in
    let b = c.bases_sound in
    let k = c.kind_sound in
    simp (c.if-not-kind_sound.true, ← k.ensures, c.if-not-bases_sound.false, ← b.ensures, c.if-not-task_sound.false, ← t.ensures)

pub returns : goal.returns
unfolding row_sound
returns c =
    let t = c.task_sound in
    let b = c.bases_sound in
    let k = c.kind_sound in
    simp (← c.record_sound.ensures, c.if-not-kind_sound.false, ← k.ensures, c.if-not-bases_sound.false, ← b.ensures, c.if-not-task_sound.false, ← t.ensures)
