use Prim.Native.Nat.{ℕ}
use mathlib.Core.Path.{sym, ap, ◌∙◌}
use mathlib.Core.Bool.{not}
use lib.Dec.{eqb}
use Rattle.image_bytes.specs.Code.Reading.{number_at}
use Rattle.image_check.proofs.Loops.{live_found, live_next, live_none}
use Rattle.image_check.proofs.is_live.Goals as goal

pub returns-then-number_at-x : goal.returns-then-number_at-x
unfolding number_at
returns-then-number_at-x c =
    let a = c.args in
    let l = c.loop-i in
    sym (ap (λ (m : ℕ). not (eqb m 0)) l.invariant ∙ live_found a.s.now a.at a.n l.i c.loop-i-test.true a.x (sym c.number_at.ensures.value ∙ c.if-number_at-x.true))

pub loop-i-preserved : goal.loop-i-preserved
unfolding number_at
loop-i-preserved c =
    let a = c.args in
    let l = c.loop-i in
    l.invariant ∙ live_next a.s.now a.at a.n l.i c.loop-i-test.true a.x (λ e. c.if-number_at-x.false (c.number_at.ensures.value ∙ e))

pub returns : goal.returns
returns c =
    let a = c.args in
    let l = c.loop-i in
    sym (ap (λ (m : ℕ). not (eqb m 0)) (l.invariant ∙ live_none a.s.now a.at a.n l.i c.loop-i-test.false a.x))
