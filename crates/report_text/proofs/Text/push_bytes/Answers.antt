use Rattle.std.proofs.Common.{add-one, take-suc}
use Rattle.report_text.specs.Laws.Texts.{adds_none, adds_both}
use Rattle.report_text.proofs.Text.push_bytes.Goals as goal

pub loop-byte-init : goal.loop-byte-init
loop-byte-init c = adds_none _

pub loop-byte-preserved : goal.loop-byte-preserved
loop-byte-preserved c =
    rw (add-one, take-suc c.args.bytes.now c.loop-byte.byte-index 0 c.loop-byte-test.true) (adds_both c.loop-byte.invariant c.push.ensures)
