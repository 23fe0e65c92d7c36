use Rattle.run_schedule.proofs.still.Goals as goal

pub returns-then-good : goal.returns-then-good
returns-then-good c = simp (c.item_sound.ensures, c.if-good.true)
