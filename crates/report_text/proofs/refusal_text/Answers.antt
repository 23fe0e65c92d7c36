use Rattle.std.proofs.Common.{rules}
use Rattle.report.specs.Report.{refusal_line}
use Rattle.refusal.specs.Numbers.{number_of}
use Rattle.report_text.specs.Laws.Texts.{adds_both, promised_by}
use Rattle.report_text.specs.Laws.Lengths.{length_refusal}
use Rattle.report_text.proofs.refusal_text.Goals as goal

pub returns : goal.returns
unfolding refusal_line
returns c = promised_by (adds_both (rw c.number.ensures at c.push_count.ensures) c.push.ensures) (search rules) (length_refusal (number_of c.args.e))
