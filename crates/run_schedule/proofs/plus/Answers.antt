use native.Mathlib.Omega.{arith}
use mathlib.Core.Path.{refl}
use Rattle.run.specs.Run.{plus}
use Rattle.run_schedule.proofs.plus.Goals as goal

pub overflow_add-result : goal.overflow_add-result
unfolding plus
overflow_add-result c = omega (arith, c.requires.executed)

pub overflow_add-result-2 : goal.overflow_add-result-2
unfolding plus
overflow_add-result-2 c = omega (arith, c.requires.waved)

pub overflow_add-result-3 : goal.overflow_add-result-3
unfolding plus
overflow_add-result-3 c = omega (arith, c.requires.trapped)

pub overflow_add-result-4 : goal.overflow_add-result-4
unfolding plus
overflow_add-result-4 c = omega (arith, c.requires.idle)

pub overflow_add-result-5 : goal.overflow_add-result-5
unfolding plus
overflow_add-result-5 c = omega (arith, c.requires.tries)

pub returns : goal.returns
unfolding plus
returns c = refl
