use Prim.Native.Nat.{◌<◌, ◌^◌}
use mathlib.Core.Path.{◌≡◌}
use native.Mathlib.Omega.{arith}
use lib.Dec.{ltb}
use borrow.Author.Tests.{lt-ltb, le-ltb}
use Rattle.window.specs.declared.Row.{Row}
use Rattle.window.specs.Sound.{bits}
use Rattle.step.specs.Soundness.{bases_sound}
use Rattle.step_soundness.proofs.bases_sound.Goals as goal

-- every base and limit but DL has its width
all_but_dl : (r : Row) → r.cb < 2 ^ 12 → r.rb < 2 ^ 10 → r.rl < 2 ^ 10 → r.pb < 2 ^ 16 → r.pl < 2 ^ 16 → r.db < 2 ^ 24
    → ltb r.dl (2 ^ 24) ≡ bases_sound r
unfolding bases_sound bits
all_but_dl r a b c d e f = simp (lt-ltb _ _ a, lt-ltb _ _ b, lt-ltb _ _ c, lt-ltb _ _ d, lt-ltb _ _ e, lt-ltb _ _ f)

pub returns-then-row-ge4096 : goal.returns-then-row-ge4096
unfolding bases_sound bits
returns-then-row-ge4096 c = simp (le-ltb _ _ c.if-row-ge4096.true)

pub returns-then-row-ge1024 : goal.returns-then-row-ge1024
unfolding bases_sound bits
returns-then-row-ge1024 c = simp (lt-ltb _ _ c.if-row-ge4096.false, le-ltb _ _ c.if-row-ge1024.true)

pub returns-then-row-ge1024-2 : goal.returns-then-row-ge1024-2
unfolding bases_sound bits
returns-then-row-ge1024-2 c = simp (lt-ltb _ _ c.if-row-ge4096.false, lt-ltb _ _ c.if-row-ge1024.false, le-ltb _ _ c.if-row-ge1024-2.true)

pub returns-then-row-ge16777216 : goal.returns-then-row-ge16777216
unfolding bases_sound bits
returns-then-row-ge16777216 c =
    let r = c.args.row in
    let b : r.pb < 2 ^ 16 = omega arith in
    let l : r.pl < 2 ^ 16 = omega arith in
    simp (lt-ltb _ _ c.if-row-ge4096.false, lt-ltb _ _ c.if-row-ge1024.false, lt-ltb _ _ c.if-row-ge1024-2.false, lt-ltb _ _ b, lt-ltb _ _ l, le-ltb _ _ c.if-row-ge16777216.true)

pub returns : goal.returns
unfolding bases_sound bits
returns c =
    let r = c.args.row in
    all_but_dl r c.if-row-ge4096.false c.if-row-ge1024.false c.if-row-ge1024-2.false (omega arith) (omega arith) c.if-row-ge16777216.false
