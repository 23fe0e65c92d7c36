use native.Mathlib.Omega.{arith}
use Rattle.run_next.specs.Laws.Next.{went_waits, went_on}
use Rattle.run_schedule.proofs.next.went.Goals as goal

pub returns-then-place-eq-WAVED : goal.returns-then-place-eq-WAVED
returns-then-place-eq-WAVED c = went_waits _ _ _ _ _ _ _ _ (omega (arith, c.requires)) c.if-place-eq-WAVED.true c.turn.ensures.0

pub pass-requires : goal.pass-requires
pass-requires c = (omega (arith, c.requires), omega (arith, c.requires), λ e. omega (arith, e), omega (arith, c.requires), omega (arith, c.requires))

pub returns : goal.returns
returns c = went_on _ _ _ _ _ _ _ _ (omega (arith, c.requires)) c.if-place-eq-WAVED.false c.pass.ensures
