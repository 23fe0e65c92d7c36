use mathlib.Core.Path.{refl}
use Rattle.run_schedule.specs.Laws.OneItem.{step_by_run}
use Rattle.run_schedule.proofs.step.Goals as goal

pub returns : goal.returns
returns c = let a = c.args in let r = c.run-after in rw (c.answer_of.ensures, c.row_at-row.ensures) (λ s. step_by_run a.n _ a.task r.result.rows r.ensures.1.places a.place s _ _ refl r.ensures.0, r.ensures.1)
