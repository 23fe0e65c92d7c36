use mathlib.Core.Path.{refl, sym, ap, ◌∙◌, subst}
use Rattle.run_schedule.specs.Laws.Carried.{none_counted}
use Rattle.run_rings.specs.declared.Rings.{Rings}
use Rattle.run_next.specs.Code.Stands.{Stands}
use Rattle.run_schedule.specs.Code.Queued.{all_queues}
use Rattle.run_schedule.proofs.numbered.Goals as goal

pub returns : goal.returns
returns c =
    let e = c.laid-queued.ensures in
    record {
      queues = ap all_queues e.0 ∙ c.rings_of-rings.ensures.1;
      stands = subst (λ (r : Rings). Stands c.args.records.kinds c.laid-queued.result.next (all_queues r)) (sym e.0) e.1;
      kinds = refl;
      stored = refl;
      psws = c.with_fresh-psws.ensures;
      flag = refl;
      free = c.free_mask.ensures;
      count = refl;
      tally = none_counted;
    }
