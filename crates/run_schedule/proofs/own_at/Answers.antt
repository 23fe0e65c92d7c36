use native.Mathlib.Omega.{arith}
use mathlib.Core.Path.{refl}
use Rattle.run_next.specs.Code.Tally.{own_in}
use Rattle.run_schedule.proofs.own_at.Goals as goal

pub overflow_add-result-2 : goal.overflow_add-result-2
unfolding own_in
overflow_add-result-2 c = omega (arith, c.requires.1.executed)

pub overflow_add-result-4 : goal.overflow_add-result-4
unfolding own_in
overflow_add-result-4 c = omega (arith, c.requires.1.waved)

pub overflow_add-result-6 : goal.overflow_add-result-6
unfolding own_in
overflow_add-result-6 c = omega (arith, c.requires.1.trapped)

pub overflow_add-result-8 : goal.overflow_add-result-8
unfolding own_in
overflow_add-result-8 c = omega (arith, c.requires.1.tries)

pub overflow_add-result-9 : goal.overflow_add-result-9
unfolding own_in
overflow_add-result-9 c = omega (arith, c.requires.1.tries)

pub overflow_add-result-12 : goal.overflow_add-result-12
unfolding own_in
overflow_add-result-12 c = omega (arith, c.requires.1.tries)

pub overflow_add-result-15 : goal.overflow_add-result-15
unfolding own_in
overflow_add-result-15 c = omega (arith, c.requires.1.tries)

pub returns : goal.returns
unfolding own_in
returns c = refl
