use native.Mathlib.Omega.{arith}
use mathlib.Core.Path.{refl, ap}
use lib.ListN.{set}
use Rattle.run_next.specs.Laws.Next.{is_step, tried_ends, tried_goes}
use Rattle.run_schedule.proofs.Queued.tried.Goals as goal

pub returns-then-not-had : goal.returns-then-not-had
returns-then-not-had c = let e = tried_ends _ c.args.place _ _ _ c.if-not-had.true c.standing.ensures in (e.0, refl, ap (set c.args.self.now.next c.args.t) e.1)

pub returns : goal.returns
returns c = let e = tried_goes _ c.args.place _ _ _ c.if-not-had.false (is_step _ _ _ _ (omega (arith, c.requires)) _ c.front.ensures) in (e.0, refl, ap (set c.args.self.now.next c.args.t) e.1)
