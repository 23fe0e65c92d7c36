use mathlib.Core.Path.{sym, ◌∙◌}
use native.Mathlib.Nat.{sub-zero}
use Rattle.image_bytes.specs.Code.Reading.{number_at}
use Rattle.image_check.specs.Code.Places.{rows_at}
use Rattle.image_check.proofs.Loops.{row_found, row_next, row_none}
use native.Mathlib.Omega.{arith}
use Rattle.image_check.proofs.has_row.Goals as goal

pub loop-i-init : goal.loop-i-init
unfolding rows_at
loop-i-init c = rw sub-zero

pub returns-then-number_at-t : goal.returns-then-number_at-t
unfolding number_at
returns-then-number_at-t c =
    let a = c.args in
    let l = c.loop-i in
    sym (l.invariant ∙ row_found a.s.now 1 a.n l.i (omega arith) a.t (sym c.number_at.ensures.value ∙ c.if-number_at-t.true))

pub loop-i-preserved : goal.loop-i-preserved
unfolding number_at
loop-i-preserved c =
    let a = c.args in
    let l = c.loop-i in
    l.invariant ∙ row_next a.s.now 1 a.n l.i (omega arith) a.t (λ e. c.if-number_at-t.false (c.number_at.ensures.value ∙ e))

pub returns : goal.returns
returns c =
    let a = c.args in
    let l = c.loop-i in
    sym (l.invariant ∙ row_none a.s.now 1 a.n l.i (omega arith) a.t)
