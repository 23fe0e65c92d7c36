use Rattle.run_rings.specs.Laws.Laid.{task_goes, tasks_done}
use Rattle.run_rings.proofs.number_tasks.Goals as goal

pub loop-t-preserved : goal.loop-t-preserved
loop-t-preserved c = let l = c.loop-t in task_goes _ l.t l.tasks _ c.loop-t-test.true c.number_task.ensures l.invariant

pub returns : goal.returns
returns c = let l = c.loop-t in tasks_done _ l.t l.tasks c.loop-t-test.false l.invariant
