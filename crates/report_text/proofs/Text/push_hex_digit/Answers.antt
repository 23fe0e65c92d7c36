use Rattle.std.proofs.Common.{lt-ltb, le-ltb}
use Rattle.report.specs.Report.{hex_digit}
use Rattle.report_text.proofs.Text.push_hex_digit.Goals as goal

pub returns-then-digit-lt10 : goal.returns-then-digit-lt10
unfolding hex_digit
returns-then-digit-lt10 c = rw (lt-ltb _ _ c.if-digit-lt10.true) c.push.ensures

pub returns-else-digit-lt10 : goal.returns-else-digit-lt10
unfolding hex_digit
returns-else-digit-lt10 c = rw (le-ltb _ _ c.if-digit-lt10.false) c.push-else-digit-lt10.ensures
