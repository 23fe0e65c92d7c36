use native.Mathlib.Omega.{arith}
use mathlib.Core.Path.{refl, sym, ap, ◌∙◌}
use lib.ListN.{set}
use Rattle.step.specs.declared.Motion.TheVariants.{Leaves}
use Rattle.run_next.specs.Code.Next.{had_in}
use Rattle.run_rings.specs.Laws.Rings.{left_in_lem}
use Rattle.run_next.specs.Laws.Next.{left_several, step_leaves_lem, try_leaves}
use Rattle.run_schedule.specs.Laws.Queued.{own_some, sfu_some, one_of_many, ends_stepped, ends_tried}
use Rattle.run_schedule.proofs.Queued.leaves.Goals as goal

pub leave-requires : goal.leave-requires
leave-requires c = let q = c.requires in (omega (arith, q.small), sfu_some _ _ _ q c.in-Tries.is)

pub returns-in-Tries : goal.returns-in-Tries
unfolding had_in
returns-in-Tries c =
    let q = c.requires in
    ends_tried _ _ c.args.self.now q 0 _ (λ a. Leaves) _ _ c.in-Tries.is c.tried.ensures.0 c.tried.ensures.1 c.tried.ensures.2
    (left_in_lem _ _ _ _ _ _ _ (omega (arith, q.small)) c.leave.ensures ∙ sym (try_leaves _ _ q.small))

pub leave-requires-2 : goal.leave-requires-2
leave-requires-2 c = let q = c.requires in (omega (arith, q.small), own_some _ _ _ q c.in_default.not-Tries)

pub returns-in-Several : goal.returns-in-Several
returns-in-Several c =
    let q = c.requires in
    let r = c.args.self.now.rings in
    let s = c.leave-2.new.rings in
    ends_stepped _ _ c.args.self.now q 0 _ (λ a. Leaves) _ c.in_default.not-Tries refl
    (left_in_lem _ _ _ _ _ _ _ (omega (arith, q.small)) c.leave-2.ensures ∙ sym (step_leaves_lem _ _ q.small))
    (ap (set c.args.self.now.next c.args.t)
    (left_several c.args.t c.args.self.now.next c.args.next q.small q.next r.pts r.heads r.lens s.pts s.heads s.lens _ _ (one_of_many _ _ _ q c.in-Several.is) c.leave-2.ensures c.front.ensures c.only.ensures))

pub returns : goal.returns
returns c =
    let q = c.requires in
    ends_stepped _ _ c.args.self.now q 0 _ (λ a. Leaves) _ c.in_default.not-Tries refl
    (left_in_lem _ _ _ _ _ _ _ (omega (arith, q.small)) c.leave-2.ensures ∙ sym (step_leaves_lem _ _ q.small))
    (ap (set c.args.self.now.next c.args.t) c.standing.ensures)
