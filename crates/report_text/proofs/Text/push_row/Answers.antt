use Rattle.std.proofs.Common.{rules}
use Rattle.report.specs.Report.{row_line}
use Rattle.report_text.specs.Laws.Lengths.{length_row}
use Rattle.report_text.specs.Laws.Texts.{adds_both}
use Rattle.report_text.proofs.Text.push_row.Goals as goal

pub returns : goal.returns
unfolding row_line
returns c =
    let processes = adds_both c.push_decimal.ensures (adds_both c.push.ensures (rw c.live.ensures at c.push_decimal-2.ensures)) in
    let kind = adds_both processes (adds_both c.push-2.ensures c.push_kind.ensures) in
    let pc = adds_both kind (adds_both c.push-3.ensures c.push_pc.ensures) in
    let counts = adds_both pc (adds_both c.push-4.ensures c.push_counts.ensures.text) in
    record { bound = length_row c.args.table c.args.row c.args.own (search rules) c.push_counts.ensures.bound; text = adds_both counts c.push-5.ensures }
