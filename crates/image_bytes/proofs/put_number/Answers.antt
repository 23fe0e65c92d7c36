use mathlib.Core.Path.{sym, ◌∙◌}
use Rattle.image.specs.Codec.{digits}
use Rattle.image.proofs.Laws.Numbers.{length_digits}
use Rattle.image_bytes.specs.Laws.Laid.{put_fits, put_not}
use Rattle.image_bytes.proofs.Putting.{put_step, put_done}
use native.Mathlib.Omega.{arith}
use Rattle.image_bytes.proofs.put_number.Goals as goal

pub returns-then-out-at : goal.returns-then-out-at
returns-then-out-at c = let a = c.args in put_not a.at (digits a.w a.v) a.out.now (rw length_digits (omega arith))

pub returns-then-out-at-2 : goal.returns-then-out-at-2
returns-then-out-at-2 c = let a = c.args in put_not a.at (digits a.w a.v) a.out.now (rw length_digits (omega arith))

pub loop-k-preserved : goal.loop-k-preserved
loop-k-preserved c = put_step _ _ _ _ c.loop-k-test.true (omega arith) ∙ c.loop-k.invariant

pub returns : goal.returns
returns c =
    let a = c.args in
    sym (put_done _ _ _ _ (omega arith)) ∙ c.loop-k.invariant ∙ put_fits a.at (digits a.w a.v) a.out.now (rw length_digits (omega arith))
