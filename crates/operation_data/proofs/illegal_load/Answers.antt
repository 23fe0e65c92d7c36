use Prim.Native.Nat.{◌/◌, ◌%◌}
use mathlib.Core.Path.{◌≡◌}
use native.Mathlib.Omega.{arith}
use borrow.Author.Tests.{eq-eqb, ne_eqb}
use Rattle.operation.specs.Roles.{illegal_load}
use Rattle.operation_data.proofs.illegal_load.Goals as goal

pub returns-then-low-eq0 : goal.returns-then-low-eq0
unfolding illegal_load
returns-then-low-eq0 c = let s : c.args.low / 4 % 4 ≡ 0 = omega arith in let d : c.args.low % 4 ≡ 0 = omega arith in simp (s, d)

pub returns-then-low-eq3 : goal.returns-then-low-eq3
unfolding illegal_load
returns-then-low-eq3 c = simp (eq-eqb _ _ c.if-low-eq3.true)

pub returns : goal.returns
unfolding illegal_load
returns c = simp (ne_eqb _ _ c.if-low-eq3.false)
