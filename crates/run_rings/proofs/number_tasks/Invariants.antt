use Rattle.std.proofs.Common.{◌≡◌, ◌-◌, take}
use Rattle.run_rings.specs.Code.Laid.{no_tasks, tasks_laid}
use Rattle.run_rings.proofs.number_tasks.Given as goal

abbrev pub invariant-loop-t : goal.invariant-loop-t
invariant-loop-t l = tasks_laid (8 - l.t) l.t (take l.n l.rows) l.tasks ≡ tasks_laid 7 1 (take l.n l.rows) no_tasks
