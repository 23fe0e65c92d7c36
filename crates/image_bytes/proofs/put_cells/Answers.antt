use Prim.Native.Nat.{◌+◌, ◌*◌, ◌≤◌, ◌<◌}
use mathlib.Core.Path.{refl}
use lib.ListN.{length, length-set}
use Rattle.image.specs.Image.{cell_length}
use Rattle.image_bytes.proofs.Putting.{byte_laid, cells_unpaired, cells_not, cells_start, cells_fit, cells_step, cells_done}
use native.Mathlib.Omega.{arith}
use Rattle.image_bytes.proofs.put_cells.Goals as goal

pub returns-then-tags-n : goal.returns-then-tags-n
returns-then-tags-n c = let a = c.args in cells_unpaired a.at a.tags.now a.words.now a.out.now c.if-tags-n.true

pub returns-then-out-at : goal.returns-then-out-at
returns-then-out-at c = let a = c.args in cells_not a.at a.tags.now a.words.now a.out.now c.if-tags-n.false (omega arith)

pub returns-then-out-at-2 : goal.returns-then-out-at-2
returns-then-out-at-2 c = let a = c.args in cells_not a.at a.tags.now a.words.now a.out.now c.if-tags-n.false (omega arith)

pub loop-i-init : goal.loop-i-init
loop-i-init c =
    let a = c.args in
    let fit : a.at + cell_length * length a.words.now ≤ length a.out.now = omega (arith, c.if-out-at.false, c.if-out-at-2.false) in
    cells_start a.at a.tags.now a.words.now a.out.now c.if-tags-n.false fit (omega arith)

pub bounds-out-p : goal.bounds-out-p
bounds-out-p c =
    let a = c.args in
    let l = c.loop-i in
    let fit : a.at + cell_length * length a.words.now ≤ length a.out.now = omega (arith, c.if-out-at.false, c.if-out-at-2.false) in
    omega (arith, cells_fit _ _ _ _ c.if-tags-n.false fit l.invariant c.loop-i-test.true, l.invariant.same)

pub put_word-requires : goal.put_word-requires
put_word-requires c =
    let a = c.args in
    let l = c.loop-i in
    let fit : a.at + cell_length * length a.words.now ≤ length a.out.now = omega (arith, c.if-out-at.false, c.if-out-at-2.false) in
    rw length-set (omega (arith, cells_fit _ _ _ _ c.if-tags-n.false fit l.invariant c.loop-i-test.true, l.invariant.same))

pub loop-i-preserved : goal.loop-i-preserved
loop-i-preserved c =
    let a = c.args in
    let l = c.loop-i in
    let fit : a.at + cell_length * length a.words.now ≤ length a.out.now = omega (arith, c.if-out-at.false, c.if-out-at-2.false) in
    let there : a.at + cell_length * l.i < length l.out = omega (arith, cells_fit _ _ _ _ c.if-tags-n.false fit l.invariant c.loop-i-test.true, l.invariant.same) in
    cells_step _ _ _ _ c.if-tags-n.false fit l.invariant (omega arith) c.loop-i-test.true refl (byte_laid _ _ _ there (omega (arith, c.type_inv.tags l.i))) c.put_word.ensures

pub returns : goal.returns
returns c =
    let a = c.args in
    let fit : a.at + cell_length * length a.words.now ≤ length a.out.now = omega (arith, c.if-out-at.false, c.if-out-at-2.false) in
    cells_done _ _ _ _ c.if-tags-n.false fit c.loop-i.invariant c.loop-i-test.false
