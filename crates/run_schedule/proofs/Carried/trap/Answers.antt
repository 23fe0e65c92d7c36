use mathlib.Core.Path.{refl}
use Rattle.run_next.specs.Laws.Settled.{trap_step, trap_try}
use Rattle.run_schedule.proofs.Carried.trap.Goals as goal

pub returns-in-Tries : goal.returns-in-Tries
returns-in-Tries c = (trap_try c.args.t c.args.self.now.queued.next _ c.requires.1 c.in-Tries.is, refl, refl, refl, refl, refl, refl, refl, refl, refl)

pub returns : goal.returns
returns c = (trap_step c.args.t c.args.self.now.queued.next _ c.requires.1 c.in_default.not-Tries, refl, refl, refl, refl, refl, refl, refl, refl, refl)
