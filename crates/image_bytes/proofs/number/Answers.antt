use mathlib.Core.Path.{sym, ◌∙◌}
use Rattle.image_bytes.proofs.Bytewise.{number_step, number_end, pow_step, below}
use native.Mathlib.Omega.{arith}
use Rattle.image_bytes.proofs.number.Goals as goal

pub overflow_mul-v : goal.overflow_mul-v
overflow_mul-v c = omega (arith, below _ _ 7 c.loop-b.invariant.0 (omega arith))

pub loop-b-preserved : goal.loop-b-preserved
loop-b-preserved c =
    let l = c.loop-b in
    rw c.from.ensures (pow_step _ _ _ l.invariant.0 (omega arith), number_step c.args.bytes.now l.b-index l.v (omega arith) ∙ l.invariant.1)

pub returns-clause-value : goal.returns-clause-value
returns-clause-value c = sym (number_end c.args.bytes.now c.loop-b.b-index c.loop-b.v (omega arith)) ∙ c.loop-b.invariant.1
