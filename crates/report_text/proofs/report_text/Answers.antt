use Rattle.std.proofs.Common.{rules, arith, ap, length, take, length-append}
use Rattle.report.specs.Report.{row_lines, counts_line}
use Rattle.report_text.specs.Texts.{tally}
use Rattle.report_text.specs.Laws.Texts.{adds_both, promised_by}
use Rattle.report_text.specs.Laws.Rows.{lines_own}
use Rattle.report_text.proofs.report_text.Goals as goal

pub returns : goal.returns
returns c =
    let rows = lines_own c.args.table c.args.counts c.args.own (take c.args.n c.args.rows) in
    promised_by (adds_both (rw rows at c.push_rows.ensures.text) c.push_last.ensures.text) (search rules)
    (omega (
      arith,
      length-append (row_lines c.args.table (tally c.args.counts c.args.own) (take c.args.n c.args.rows)) (counts_line c.args.counts c.args.table.users.flag),
      ap length rows,
      c.push_rows.ensures.bound,
      c.push_last.ensures.bound,
    ))
