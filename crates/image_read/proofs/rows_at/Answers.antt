use mathlib.Core.Path.{refl}
use native.Mathlib.Omega.{arith}
use Rattle.image_read.proofs.Rows.{start, step, done}
use Rattle.image_read.proofs.rows_at.Goals as goal

pub loop-i-init : goal.loop-i-init
loop-i-init c = start _ _ _ _ (omega (arith, c.well_formed)) refl

pub loop-i-preserved : goal.loop-i-preserved
loop-i-preserved c = step _ _ _ _ _ c.loop-i.invariant (omega arith) c.requires c.row_at.ensures

pub returns : goal.returns
returns c = done _ _ _ _ _ c.loop-i.invariant (omega arith) (omega arith)
