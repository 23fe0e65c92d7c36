use Rattle.image_bytes.specs.Laws.Scans.{stays, at_place}
use Rattle.image_bytes.proofs.Scanning.{number_short, number_bad, number_fine}
use native.Mathlib.Omega.{arith}
use Rattle.image_bytes.proofs.check_number.Goals as goal

pub returns-in_default : goal.returns-in_default
returns-in_default c = stays _ c.args.s.now c.args.c c.in_default.is

pub returns-then-left-w : goal.returns-then-left-w
returns-then-left-w c =
    let a = c.args in
    let x = c.in-Ok in
    at_place _ a.s.now a.c x.at x.is (number_short a.w a.e a.s.now x.at a.good (omega (arith, c.saturating_sub-left.ensures, c.if-left-w.true)))

pub returns-then-not-good : goal.returns-then-not-good
returns-then-not-good c =
    let a = c.args in
    let x = c.in-Ok in
    at_place _ a.s.now a.c x.at x.is (number_bad a.w a.e a.s.now x.at a.good (omega (arith, c.saturating_sub-left.ensures, c.if-left-w.false)) c.if-not-good.true)

pub returns : goal.returns
returns c =
    let a = c.args in
    let x = c.in-Ok in
    rw c.saturating_sub-left.ensures
    (at_place _ a.s.now a.c x.at x.is (number_fine a.w a.e a.s.now x.at a.good (omega (arith, c.saturating_sub-left.ensures, c.if-left-w.false)) c.if-not-good.false))
