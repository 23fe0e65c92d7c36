use Prim.Native.Nat.{◌+◌, ◌-◌}
use mathlib.Core.Path.{◌≡◌}
use native.Mathlib.Omega.{arith}
use Rattle.image_bytes.specs.Code.Reading.{number_at}
use Rattle.image_read.proofs.Table.{psw_start, psw_step}
use Rattle.image_read.proofs.psws_at.Goals as goal

pub loop-i-init : goal.loop-i-init
loop-i-init c = psw_start _ _ _

pub loop-i-preserved : goal.loop-i-preserved
unfolding number_at
loop-i-preserved c =
    let i = c.loop-i.i in
    let e : i - 1 + 1 ≡ i = omega arith in
    rw c.set_at.ensures (psw_step _ _ _ (i - 1) (omega arith) c.number_at-pt.ensures.value c.number_at.ensures.value (rw e c.loop-i.invariant))
