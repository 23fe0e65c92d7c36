use Rattle.run_schedule.specs.Code.OneItem.{answer_of}
use Rattle.run_schedule.proofs.answer_of.Goals as goal

pub returns-in-Err : goal.returns-in-Err
unfolding answer_of
returns-in-Err c = simp c.in-Err.is

pub returns-in-Ok : goal.returns-in-Ok
unfolding answer_of
returns-in-Ok c = simp (c.in-Ok.is, ← c.ending_of.ensures)
