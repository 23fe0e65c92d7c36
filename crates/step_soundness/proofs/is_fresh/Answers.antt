use borrow.Author.Tests.{lt-ltb, le-ltb}
use Rattle.step.specs.Soundness.{pt_sound}
use Rattle.step_soundness.proofs.is_fresh.Goals as goal

pub returns-then-pt-ge-FIRST_NO_PT : goal.returns-then-pt-ge-FIRST_NO_PT
unfolding pt_sound
returns-then-pt-ge-FIRST_NO_PT c = simp (le-ltb _ _ c.if-pt-ge-FIRST_NO_PT.true)

pub returns : goal.returns
unfolding pt_sound
returns c = simp (← c.psw_sound.ensures, c.if-marked.false, lt-ltb _ _ c.if-pt-ge-FIRST_NO_PT.false)
