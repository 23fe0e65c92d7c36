use borrow.Author.Tests.{ne_eqb}
use Rattle.run_schedule.specs.Code.OneItem.{trap_of}
use Rattle.run_schedule.proofs.trap_of.Goals as goal

pub returns-in-0 : goal.returns-in-0
unfolding trap_of
returns-in-0 c = rw c.in-0.is

pub returns-in-18 : goal.returns-in-18
unfolding trap_of
returns-in-18 c = rw c.in-18.is

pub returns-in-20 : goal.returns-in-20
unfolding trap_of
returns-in-20 c = rw c.in-20.is

pub returns-in-22 : goal.returns-in-22
unfolding trap_of
returns-in-22 c = rw c.in-22.is

pub returns-in-26 : goal.returns-in-26
unfolding trap_of
returns-in-26 c = rw c.in-26.is

pub returns-in-28 : goal.returns-in-28
unfolding trap_of
returns-in-28 c = rw c.in-28.is

pub returns-in_default : goal.returns-in_default
unfolding trap_of
returns-in_default c =
    let r = c.in_default.in_default-own.rest in
    simp (
      ne_eqb _ 0 r.0.0.0.0.0.1,
      ne_eqb _ 18 r.0.0.0.0.1,
      ne_eqb _ 20 r.0.0.0.1,
      ne_eqb _ 22 r.0.0.1,
      ne_eqb _ 26 r.0.1,
      ne_eqb _ 28 r.1,
    )
