use Prim.Native.Nat.{◌+◌, ◌-◌, ◌*◌, ◌≤◌}
use mathlib.Core.Path.{sym}
use lib.ListN.{length}
use Rattle.image.specs.Image.{cell_length}
use Rattle.image_bytes.specs.Laws.Fields.{byte_at}
use Rattle.image_bytes.proofs.Filling.{step, done, cells_unpaired, cells_stay, cells_filled}
use native.Mathlib.Omega.{arith}
use Rattle.image_bytes.proofs.fill_cells.Goals as goal

pub returns-then-tags-n : goal.returns-then-tags-n
returns-then-tags-n c = let a = c.args in cells_unpaired a.at a.s.now a.tags.now a.words.now c.if-tags-n.true

pub returns-then-saturating_sub-n : goal.returns-then-saturating_sub-n
returns-then-saturating_sub-n c =
    let a = c.args in
    cells_stay a.at a.s.now a.tags.now a.words.now c.if-tags-n.false (omega (arith, c.saturating_sub.ensures, c.if-saturating_sub-n.true))

pub loop-i-preserved : goal.loop-i-preserved
loop-i-preserved c =
    let l = c.loop-i in
    record {
      tags = step _ _ _ _ _ _ _ _ l.invariant.tags (omega arith) c.loop-i-test.true (sym (byte_at (c.args.at + cell_length * l.i) c.args.s.now));
      words = step _ _ _ _ _ _ _ _ l.invariant.words (omega arith) c.loop-i-test.true c.word_at.ensures;
    }

pub returns : goal.returns
returns c =
    let a = c.args in
    let l = c.loop-i in
    let h : cell_length * length a.words.now ≤ length a.s.now - a.at = omega (arith, c.saturating_sub.ensures, c.if-saturating_sub-n.false) in
    cells_filled a.at a.s.now a.tags.now a.words.now c.if-tags-n.false h (done _ _ _ _ _ _ _ _ l.invariant.tags c.loop-i-test.false)
    (done _ _ _ _ _ _ _ _ l.invariant.words c.loop-i-test.false)
