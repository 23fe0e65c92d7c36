use borrow.Author.Tests.{eq-eqb, ne_eqb}
use Rattle.run_schedule.specs.Code.OneItem.{ending_of}
use Rattle.run_schedule.proofs.ending_of.Goals as goal

pub returns-then-c-eq1 : goal.returns-then-c-eq1
unfolding ending_of
returns-then-c-eq1 c = simp (eq-eqb _ _ c.if-c-eq1.true)

pub returns-then-c-eq1-2 : goal.returns-then-c-eq1-2
unfolding ending_of
returns-then-c-eq1-2 c = simp (eq-eqb _ _ c.if-c-eq1-2.true, ne_eqb _ _ c.if-c-eq1.false)

pub returns-then-c-eq1-3 : goal.returns-then-c-eq1-3
unfolding ending_of
returns-then-c-eq1-3 c = simp (eq-eqb _ _ c.if-c-eq1-3.true, ne_eqb _ _ c.if-c-eq1-2.false, ne_eqb _ _ c.if-c-eq1.false)

pub returns : goal.returns
unfolding ending_of
returns c =
    simp (
      ← c.trap_of.ensures,
      ne_eqb _ _ c.if-c-eq1-3.false,
      ne_eqb _ _ c.if-c-eq1-2.false,
      ne_eqb _ _ c.if-c-eq1.false,
    )
