use Rattle.std.proofs.Common.{eq-eqb, ne_eqb}
use Rattle.report.specs.Report.{kind_text}
use Rattle.report_text.proofs.Text.push_kind.Goals as goal

pub returns-then-kind-eq-NO_TRAP : goal.returns-then-kind-eq-NO_TRAP
unfolding kind_text
returns-then-kind-eq-NO_TRAP c = rw (eq-eqb _ _ c.if-kind-eq-NO_TRAP.true) c.push_bytes.ensures

pub returns-else-kind-eq-NO_TRAP : goal.returns-else-kind-eq-NO_TRAP
unfolding kind_text
returns-else-kind-eq-NO_TRAP c = rw (ne_eqb _ _ c.if-kind-eq-NO_TRAP.false) c.push_hex.ensures
