use Rattle.std.proofs.Common.{rules}
use Rattle.report.specs.Report.{counts_line}
use Rattle.report_text.specs.Laws.Lengths.{length_last}
use Rattle.report_text.specs.Laws.Texts.{adds_both}
use Rattle.report_text.proofs.Text.push_last.Goals as goal

pub returns : goal.returns
unfolding counts_line
returns c = record {
  bound = length_last c.args.counts c.args.flag c.push_counts.ensures.bound (search rules);
  text = adds_both (adds_both c.push_counts.ensures.text c.push_count.ensures) c.push.ensures;
}
