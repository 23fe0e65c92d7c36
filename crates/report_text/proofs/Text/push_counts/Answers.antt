use Rattle.std.proofs.Common.{rules}
use Rattle.report.specs.Report.{counts_text}
use Rattle.report_text.specs.Laws.Lengths.{length_counts}
use Rattle.report_text.specs.Laws.Texts.{adds_both}
use Rattle.report_text.proofs.Text.push_counts.Goals as goal

pub returns : goal.returns
unfolding counts_text
returns c = record {
  bound = length_counts c.args.counts (search rules) (search rules) (search rules) (search rules) (search rules);
  text = adds_both (adds_both (adds_both (adds_both c.push_count.ensures c.push_count-2.ensures) c.push_count-3.ensures) c.push_count-4.ensures) c.push_count-5.ensures;
}
