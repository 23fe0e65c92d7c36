use borrow.Author.Tests.{ne_eqb}
use Rattle.run_next.specs.Code.Next.{only}
use Rattle.run_schedule.proofs.next.only.Goals as goal

pub returns-then-n-eq1 : goal.returns-then-n-eq1
unfolding only
returns-then-n-eq1 c = simp c.if-n-eq1.true

pub returns : goal.returns
unfolding only
returns c = simp (ne_eqb _ 1 c.if-n-eq1.false)
