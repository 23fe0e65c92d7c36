use native.Mathlib.Omega.{arith}
use mathlib.Core.Path.{refl, sym, ap, ◌∙◌}
use lib.ListN.{set}
use Rattle.step.specs.Code.Parts.{created_motion}
use Rattle.run_next.specs.Code.Next.{had_in}
use Rattle.run_rings.specs.Laws.Rings.{turned_in, then_joined}
use Rattle.run_next.specs.Laws.Next.{joined_alone, joined_alone_in, passed_len, step_creates, try_creates}
use Rattle.run_schedule.specs.Laws.Queued.{sfu_some, only_one, ends_stepped, ends_tried}
use Rattle.run_schedule.proofs.Queued.joins.Goals as goal

pub returns-in-Alone : goal.returns-in-Alone
returns-in-Alone c =
    let q = c.requires.0 in
    let r = c.args.self.now.rings in
    let s = c.join.new.rings in
    let o = only_one _ _ _ q c.in-Alone.is in
    ends_stepped _ _ c.args.self.now q 0 _ (λ a. created_motion a c.args.p) _ (λ z. let y = sym c.in-Alone.is ∙ z in cc) refl
    (joined_alone_in c.args.t c.args.self.now.next c.args.next q.small q.next c.args.p r.pts r.heads r.lens s.pts s.heads s.lens o c.join.ensures)
    (ap (set c.args.self.now.next c.args.t) (joined_alone c.args.t c.args.self.now.next c.args.next q.small q.next c.args.p r.pts r.heads r.lens s.pts s.heads s.lens o c.join.ensures))

pub pass-requires : goal.pass-requires
pass-requires c =
    let q = c.requires.0 in
    let o = sfu_some _ _ _ q c.in-Tries.is in
    (omega (arith, q.small), omega (arith, q.small), λ e. omega (arith, e), o, omega (arith, c.requires.1, o))

pub join-requires-in-Tries : goal.join-requires-in-Tries
join-requires-in-Tries c =
    let q = c.requires.0 in
    let o = sfu_some _ _ _ q c.in-Tries.is in
    let e = passed_len _ _ _ _ _ _ _ _ (omega (arith, q.small)) (omega (arith, q.small)) (λ z. omega (arith, z)) (omega (arith, c.requires.1, o)) c.pass.ensures in
    (omega (arith, q.small), omega (arith, e, c.requires.1, o))

pub returns-in-Tries : goal.returns-in-Tries
unfolding had_in created_motion
returns-in-Tries c =
    let q = c.requires.0 in
    ends_tried _ _ c.args.self.now q 0 _ (λ a. created_motion a c.args.p) _ _ c.in-Tries.is c.tried.ensures.0 c.tried.ensures.1 c.tried.ensures.2
    (then_joined _ _ _ _ _ _ _ _ _ (omega (arith, q.small)) c.pass.ensures c.join-in-Tries.ensures ∙ sym (try_creates _ _ q.small _))

pub returns : goal.returns
unfolding created_motion
returns c =
    let q = c.requires.0 in
    ends_stepped _ _ c.args.self.now q 0 _ (λ a. created_motion a c.args.p) _ c.in_default-role.not-Tries refl
    (then_joined _ _ _ _ _ _ _ _ _ (omega (arith, q.small)) (turned_in _ _ _ _ _ _ _ (omega (arith, q.small)) c.turn.ensures.0) c.join-2.ensures ∙ sym (step_creates _ _ q.small _))
    (ap (set c.args.self.now.next c.args.t) c.standing.ensures)
