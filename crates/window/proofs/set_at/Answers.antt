use Rattle.std.proofs.Common.{sym}
use Rattle.std.proofs.Math.Seq.{set_out}
use Rattle.window.proofs.set_at.Goals as goal

pub returns-else-a-xs : goal.returns-else-a-xs
returns-else-a-xs g c = sym (set_out c.args.xs.now c.args.a c.args.value c.if-a-xs.false)
