use native.Mathlib.Omega.{arith}
use mathlib.Core.Path.{sym, ◌∙◌}
use Rattle.step.proofs.Laws.Every.{every_step, every_end}
use Rattle.run.specs.Schedule.{item_sound}
use Rattle.run_schedule.proofs.items_sound.Goals as goal

pub loop-t-preserved : goal.loop-t-preserved
loop-t-preserved c = let l = c.loop-t in rw c.still-good.ensures (every_step item_sound c.args.schedule.now l.t-index l.good (omega arith) ∙ l.invariant)

pub returns : goal.returns
returns c = let l = c.loop-t in sym (every_end item_sound c.args.schedule.now l.t-index l.good (omega arith)) ∙ l.invariant
