use native.Mathlib.Omega.{arith}
use mathlib.Core.Path.{refl, sym, ap, ◌∙◌}
use lib.ListN.{set}
use Rattle.operation.specs.declared.Wait.TheVariants.{Data}
use Rattle.step.specs.Code.Parts.{waved_motion}
use Rattle.run_next.specs.Code.Next.{had_in}
use Rattle.run_rings.specs.Laws.Rings.{turned_in}
use Rattle.run_next.specs.Laws.Next.{step_passes, try_turns}
use Rattle.run_schedule.specs.Laws.Queued.{own_some, ends_stepped, ends_tried}
use Rattle.run_schedule.proofs.Queued.parks.Goals as goal

pub returns-in-Tries : goal.returns-in-Tries
unfolding had_in waved_motion
returns-in-Tries c =
    let q = c.requires in
    ends_tried _ _ c.args.self.now q 8 _ (λ a. waved_motion a Data) _ _ c.in-Tries.is c.tried.ensures.0 c.tried.ensures.1 c.tried.ensures.2
    (turned_in _ _ _ _ _ _ _ (omega (arith, q.small)) c.turn.ensures.0 ∙ sym (try_turns _ _ q.small))

pub pass-requires : goal.pass-requires
pass-requires c =
    let q = c.requires in
    let o = own_some _ _ _ q c.in_default.not-Tries in
    (omega (arith, q.small), omega (arith, q.small), λ e. omega (arith, e), o, omega (arith, q.fits, o))

pub returns : goal.returns
unfolding waved_motion
returns c =
    let q = c.requires in
    ends_stepped _ _ c.args.self.now q 8 _ (λ a. waved_motion a Data) _ c.in_default.not-Tries refl
    (c.pass.ensures ∙ sym (step_passes _ _ q.small)) (ap (set c.args.self.now.next c.args.t) c.standing.ensures)
