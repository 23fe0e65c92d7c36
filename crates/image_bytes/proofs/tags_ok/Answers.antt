use mathlib.Core.Path.{sym, ◌∙◌}
use Rattle.image_bytes.specs.Code.Scanning.{tag_test}
use Rattle.step.proofs.Laws.Every.{every_step, every_end}
use native.Mathlib.Omega.{arith}
use Rattle.image_bytes.proofs.tags_ok.Goals as goal

pub loop-t-preserved : goal.loop-t-preserved
loop-t-preserved c =
    let l = c.loop-t in
    let a = c.args in
    rw c.tag_ok-good.ensures (every_step (tag_test a.kind) a.tags.now l.t-index l.good (omega arith) ∙ l.invariant)

pub returns : goal.returns
returns c = sym (every_end (tag_test c.args.kind) c.args.tags.now c.loop-t.t-index c.loop-t.good (omega arith)) ∙ c.loop-t.invariant
