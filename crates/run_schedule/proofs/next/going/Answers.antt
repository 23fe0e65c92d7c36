use Rattle.run_next.specs.Code.Settled.{going_place}
use Rattle.run_next.specs.Laws.Settled.{going_none}
use Rattle.run_schedule.proofs.next.going.Goals as goal

pub returns-in-Continues : goal.returns-in-Continues
unfolding going_place
returns-in-Continues c = simp c.in-Continues.is

pub returns-in-Waits : goal.returns-in-Waits
unfolding going_place
returns-in-Waits c = simp c.in-Waits.is

pub returns-in_default : goal.returns-in_default
returns-in_default c = going_none _ c.in_default.not-Continues c.in_default.not-Waits
