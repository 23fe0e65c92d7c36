use Prim.Native.Nat.{◌+◌, ◌-◌, ◌*◌}
use mathlib.Core.Path.{◌≡◌, sym, ◌∙◌}
use mathlib.Core.Bool.{true, false}
use borrow.Author.Tests.{not-true, not-false}
use lib.Dec.{eqb}
use Rattle.step.specs.Queues.{occ}
use Rattle.image.specs.Image.{process_length}
use Rattle.image_bytes.specs.Code.Reading.{field_at, number_at}
use Rattle.image_check.specs.Code.Places.{pts_at}
use Rattle.image_check.proofs.Loops.{distinct_next, distinct_none}
use Rattle.image_check.proofs.pts_distinct.Goals as goal

pub returns-then-is_live : goal.returns-then-is_live
unfolding number_at
returns-then-is_live c =
    let a = c.args in
    let l = c.loop-i in
    let s = a.s.now in
    let t : eqb (occ (field_at 1 (a.at + process_length * l.i) s) (pts_at (a.n - (l.i + 1)) (a.at + process_length * (l.i + 1)) s)) 0 ≡ false =
    not-true _ (rw c.number_at-pt.ensures.value at (sym c.is_live.ensures ∙ c.if-is_live.true)) in
    sym (l.invariant ∙ distinct_next s a.at a.n l.i c.loop-i-test.true ∙ rw t)

pub loop-i-preserved : goal.loop-i-preserved
unfolding number_at
loop-i-preserved c =
    let a = c.args in
    let l = c.loop-i in
    let s = a.s.now in
    let t : eqb (occ (field_at 1 (a.at + process_length * l.i) s) (pts_at (a.n - (l.i + 1)) (a.at + process_length * (l.i + 1)) s)) 0 ≡ true =
    not-false _ (rw c.number_at-pt.ensures.value at (sym c.is_live.ensures ∙ c.if-is_live.false)) in
    l.invariant ∙ distinct_next s a.at a.n l.i c.loop-i-test.true ∙ rw t

pub returns : goal.returns
returns c =
    let a = c.args in
    let l = c.loop-i in
    sym (l.invariant ∙ distinct_none a.s.now a.at a.n l.i c.loop-i-test.false)
