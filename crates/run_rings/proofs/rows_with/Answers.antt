use Rattle.std.proofs.Common.{◌≡◌, ap, ◌∙◌, length, set, min, rules, arith}
use Rattle.run_rings.specs.Laws.Rows.{with_none, with_next, with_first}
use Rattle.run_rings.proofs.rows_with.Goals as goal

pub loop-i-init : goal.loop-i-init
loop-i-init c = with_none _ _ _

pub loop-i-preserved : goal.loop-i-preserved
loop-i-preserved c =
    let l = c.loop-i in
    let a = c.args in
    let f : length a.rows ≡ 7 = search rules in
    ap (set l.next l.i) c.row_with.ensures ∙ with_next a.kinds a.stored a.rows l.i _ l.next (omega arith) l.invariant

pub returns : goal.returns
returns c =
    let l = c.loop-i in
    let a = c.args in
    let f : length a.rows ≡ 7 = search rules in
    let i : l.i ≡ min a.n (length a.rows) = omega arith in
    l.invariant ∙ with_first a.kinds a.stored a.rows l.i a.n i
