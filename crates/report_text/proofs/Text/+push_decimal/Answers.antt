use Rattle.std.proofs.Common.{◌/◌}
use Rattle.report.specs.Report.{decimal}
use Rattle.report_text.specs.Code.Pushes.{Adds}
use Rattle.report_text.specs.Laws.Texts.{adds_both}
use Rattle.report_text.specs.Laws.Digits.{decimal_of_one, decimal_of_more}
use Rattle.report_text.proofs.Text.+push_decimal.Goals as goal
use Rattle.report_text.proofs.Text.+push_decimal.Goals.{then-n-ge10, else-n-ge10}

pub returns : goal.returns
returns t c = elim c.if-n-ge10.branch [
  | then-n-ge10 w ↦
      let higher : Adds c.args.self.now c.if-n-ge10.self (decimal (c.args.n / 10)) = rw w.self-is w.push_decimal.ensures in
      rw (decimal_of_more c.args.n c.ranges.n.fits w.if-n-ge10.true) (adds_both higher c.push.ensures)
  | else-n-ge10 w ↦ rw (decimal_of_one c.args.n w.if-n-ge10.false) (rw w.self-is at c.push.ensures)
]
