use Rattle.std.proofs.Common.{sym, ap, ◌∙◌}
use Rattle.filling_search.specs.Code.Steps.{onto, tops_of}
use Rattle.filling_search.specs.Laws.Places.{onto_last, ceiling_found}
use Rattle.filling_search.proofs.ceiling.Goals as goal

pub loop-need-init : goal.loop-need-init
unfolding tops_of
loop-need-init c = cc

pub loop-need-preserved : goal.loop-need-preserved
loop-need-preserved c =
    let l = c.loop-need in
    rw c.push.ensures (sym (onto_last l.tops c.next.new.self.iter.rest.now c.in-Some.need.now) ∙ ap (onto l.tops) (sym c.in-Some.ensures.steps) ∙ l.invariant)

pub returns : goal.returns
returns c = c.capped.ensures ∙ ceiling_found c.args.needs.now c.loop-need.tops _ c.in-None.ensures.steps.0 c.loop-need.invariant
