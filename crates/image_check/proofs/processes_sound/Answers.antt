use Rattle.image_bytes.specs.Code.Reading.{number_at}
use Rattle.image_check.proofs.processes_sound.Goals as goal

pub returns-then-not-pts_distinct : goal.returns-then-not-pts_distinct
unfolding number_at
returns-then-not-pts_distinct c =
    let p = c.pts_distinct in
    simp (← c.number_at-m.ensures.value, ← p.ensures, c.if-not-pts_distinct.true)

pub returns : goal.returns
unfolding number_at
returns c =
    let p = c.pts_distinct in
    let if1 = c.if-not-pts_distinct in
    simp (← c.number_at-m.ensures.value, ← p.ensures, if1.false, c.total_sound.ensures, c.number_at.ensures.value)
