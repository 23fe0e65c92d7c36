use native.Mathlib.Omega.{arith}
use mathlib.Core.Path.{ap, ◌≡◌}
use lib.ListN.{set}
use Rattle.run_rings.specs.Laws.Rings.{turned_in}
use Rattle.run_next.specs.Laws.Next.{is_own}
use Rattle.run_schedule.specs.Laws.Queued.{own_here}
use Rattle.run_schedule.proofs.Queued.stepped.Goals as goal

pub returns-in-Follows : goal.returns-in-Follows
returns-in-Follows c = (turned_in _ _ _ _ _ _ _ (omega (arith, c.requires.0.small)) c.turn.ensures.0, ap (set c.args.self.now.next c.args.t) c.standing.ensures)

pub returns : goal.returns
returns c =
    let q = c.requires.0 in
    let own = own_here _ _ _ q c.requires.1 c.in_default.not-Follows in
    let e : c.turn.new.rings.lens ≡ c.args.self.now.rings.lens = c.turn.ensures.1 in (
      turned_in _ _ _ _ _ _ _ (omega (arith, q.small)) c.turn.ensures.0,
      ap (set c.args.self.now.next c.args.t)
          (is_own c.args.t c.turn.new.rings.pts c.turn.new.rings.heads c.turn.new.rings.lens q.small _ _ c.front.ensures (rw e own.is) (rw e own.empty) (rw e own.some_one)),
    )
