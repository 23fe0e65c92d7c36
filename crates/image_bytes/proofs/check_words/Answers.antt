use Rattle.image_bytes.specs.Laws.Scans.{stays, at_place}
use Rattle.image_bytes.specs.Laws.Cells.{words_whole, words_short}
use native.Mathlib.Omega.{arith}
use Rattle.image_bytes.proofs.check_words.Goals as goal

pub returns-in_default : goal.returns-in_default
returns-in_default c = stays _ c.args.s.now c.args.c c.in_default.is

pub returns-then-left-n : goal.returns-then-left-n
returns-then-left-n c =
    let a = c.args in
    let x = c.in-Ok in
    at_place _ a.s.now a.c x.from x.is (words_short a.s.now a.n x.from (omega (arith, c.saturating_sub-left.ensures, c.if-left-n.true)))

pub returns : goal.returns
returns c =
    let a = c.args in
    let x = c.in-Ok in
    rw c.saturating_sub-left.ensures (at_place _ a.s.now a.c x.from x.is (words_whole a.s.now a.n x.from (omega (arith, c.saturating_sub-left.ensures, c.if-left-n.false))))
