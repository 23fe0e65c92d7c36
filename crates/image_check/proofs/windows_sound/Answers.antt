use Prim.Native.Nat.{◌+◌, ◌*◌}
use mathlib.Core.Path.{◌≡◌, sym, ◌∙◌}
use mathlib.Core.Bool.{true, false}
use native.Mathlib.Nat.{sub-zero}
use Rattle.step.specs.Soundness.{row_ends_in}
use Rattle.image.specs.Image.{row_length}
use Rattle.image_check.specs.Code.Places.{row_at, rows_at}
use Rattle.image_check.proofs.Loops.{windows_next, windows_none}
use Rattle.image_check.proofs.windows_sound.Goals as goal

pub loop-i-init : goal.loop-i-init
unfolding rows_at
loop-i-init c = rw sub-zero

pub returns-then-not-row_ends_in : goal.returns-then-not-row_ends_in
returns-then-not-row_ends_in c =
    let a = c.args in
    let l = c.loop-i in
    let t : row_ends_in a.registers a.program a.data_words (row_at (1 + row_length * l.i) a.s.now) ≡ false = rw c.row_at-row.ensures at (sym c.row_ends_in.ensures ∙ c.if-not-row_ends_in.true) in
    sym (l.invariant ∙ windows_next a.s.now 1 a.n l.i c.loop-i-test.true _ _ _ ∙ rw t)

pub loop-i-preserved : goal.loop-i-preserved
loop-i-preserved c =
    let a = c.args in
    let l = c.loop-i in
    let t : row_ends_in a.registers a.program a.data_words (row_at (1 + row_length * l.i) a.s.now) ≡ true = rw c.row_at-row.ensures at (sym c.row_ends_in.ensures ∙ c.if-not-row_ends_in.false) in
    l.invariant ∙ windows_next a.s.now 1 a.n l.i c.loop-i-test.true _ _ _ ∙ rw t

pub returns : goal.returns
returns c =
    let a = c.args in
    let l = c.loop-i in
    sym (l.invariant ∙ windows_none a.s.now 1 a.n l.i c.loop-i-test.false _ _ _)
