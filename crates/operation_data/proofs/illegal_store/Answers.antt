use mathlib.Core.Bool.{or-true, or-false}
use borrow.Author.Tests.{eq-eqb, ne_eqb}
use Rattle.operation.specs.Roles.{illegal_store}
use Rattle.operation_data.proofs.illegal_store.Goals as goal

pub returns-then-low-ne0 : goal.returns-then-low-ne0
unfolding illegal_store
returns-then-low-ne0 c = simp (or-true, ne_eqb _ _ c.if-low-ne0.true)

pub returns-then-low-eq0 : goal.returns-then-low-eq0
unfolding illegal_store
returns-then-low-eq0 c = simp (eq-eqb _ _ c.if-low-eq0.true, eq-eqb _ _ c.if-low-ne0.false)

pub returns : goal.returns
unfolding illegal_store
returns c = simp (or-false, ne_eqb _ _ c.if-low-eq0.false, eq-eqb _ _ c.if-low-ne0.false)
