use Rattle.std.proofs.Common.{sym, ◌∙◌, arith}
use Rattle.filling_search.specs.Laws.Places.{push_next, push_past, push_end}
use Rattle.filling_search.proofs.push.Goals as goal
use Rattle.filling_search.proofs.push.Goals.{then-top-carry, else-top-carry}

pub loop-top-preserved : goal.loop-top-preserved
loop-top-preserved c =
    let l = c.loop-top in
    elim c.if-top-carry.branch [
      | then-top-carry w ↦ rw (w.tops-is, w.carry-is, w.swap.ensures.x_after, w.swap.ensures.y_after) (sym (push_next l.tops l.top-index l.carry (omega arith) (omega arith)) ∙ l.invariant)
      | else-top-carry w ↦ rw (w.tops-is, w.carry-is) (sym (push_past l.tops l.top-index l.carry (omega arith) (omega arith)) ∙ l.invariant)
    ]

pub returns : goal.returns
returns c = let l = c.loop-top in push_end l.tops l.top-index l.carry (omega arith) ∙ l.invariant
