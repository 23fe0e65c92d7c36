use native.Mathlib.Omega.{arith}
use Rattle.run_next.specs.Laws.Next.{is_sfu, is_none, is_own}
use Rattle.run_schedule.proofs.next.standing.Goals as goal

pub returns-then-rings-own-ne0 : goal.returns-then-rings-own-ne0
returns-then-rings-own-ne0 c = is_sfu _ _ _ _ (omega (arith, c.requires)) _ c.front.ensures (λ e. omega (arith, e, c.if-rings-own-ne0.true))

pub returns-then-len-eq0 : goal.returns-then-len-eq0
returns-then-len-eq0 c = is_none _ _ _ _ (omega (arith, c.requires)) (omega (arith, c.if-rings-own-ne0.false)) (omega (arith, c.if-len-eq0.true))

pub returns : goal.returns
returns c = is_own _ _ _ _ (omega (arith, c.requires)) _ _ c.front-2.ensures c.only.ensures (omega (arith, c.if-rings-own-ne0.false)) (λ e. omega (arith, e, c.if-len-eq0.false))
