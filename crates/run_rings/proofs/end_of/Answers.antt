use mathlib.Core.Path.{◌≡◌, sym}
use Prim.Native.Nat.{suc, ◌+◌}
use native.Mathlib.Omega.{arith}
use borrow.Author.Tests.{lt-leb, le-leb}
use Rattle.window.specs.Code.Spans.{end_of}
use Rattle.run_rings.proofs.end_of.Goals as goal

pub returns-then-last-first : goal.returns-then-last-first
unfolding end_of
returns-then-last-first c = sym (rw (lt-leb c.args.first c.args.last c.if-last-first.true))

pub returns : goal.returns
unfolding end_of
returns c = let e : suc c.args.last ≡ c.args.last + 1 = omega arith in sym (rw (le-leb c.args.first c.args.last c.if-last-first.false) e)
