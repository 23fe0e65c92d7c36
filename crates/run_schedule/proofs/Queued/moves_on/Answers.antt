use mathlib.Core.Path.{refl, sym, ◌∙◌}
use Rattle.std.specs.Prelude.{eqb}
use Rattle.run_next.specs.Code.Next.{had_in, going_motion}
use Rattle.run_next.specs.Laws.Next.{step_goes}
use Rattle.run_schedule.specs.Laws.Queued.{sfu_some, ends_stepped, ends_tried}
use Rattle.run_schedule.proofs.Queued.moves_on.Goals as goal

pub went-requires : goal.went-requires
went-requires c = let q = c.requires.0 in (q.small, q.fits, sfu_some _ _ _ q c.in-Tries.is)

pub returns-in-Tries : goal.returns-in-Tries
unfolding had_in
returns-in-Tries c =
    ends_tried _ _ c.args.self.now c.requires.0 c.args.place _ (going_motion (eqb c.args.place 8)) _ _ c.in-Tries.is c.tried.ensures.0 c.tried.ensures.1 c.tried.ensures.2 c.went.ensures

pub stepped-requires : goal.stepped-requires
stepped-requires c = (c.requires.0, c.in_default.not-Tries)

pub returns : goal.returns
returns c =
    ends_stepped _ _ c.args.self.now c.requires.0 c.args.place _ (going_motion (eqb c.args.place 8)) _ c.in_default.not-Tries refl
    (c.stepped.ensures.0 ∙ sym (step_goes _ _ _ c.requires.0.small)) c.stepped.ensures.1
