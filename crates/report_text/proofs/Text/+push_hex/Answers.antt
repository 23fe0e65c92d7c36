use Rattle.std.proofs.Common.{arith, ◌≡◌}
use Rattle.report.specs.Report.{hex}
use Rattle.report_text.specs.Laws.Texts.{adds_none, adds_both}
use Rattle.report_text.specs.Laws.Digits.{hex_more}
use Rattle.report_text.proofs.Text.+push_hex.Goals as goal

pub returns-then-k-gt0 : goal.returns-then-k-gt0
returns-then-k-gt0 t c = rw (hex_more c.args.k c.args.n (omega arith)) (adds_both c.push_hex.ensures c.push_hex_digit.ensures)

pub returns-else-k-gt0 : goal.returns-else-k-gt0
unfolding hex
returns-else-k-gt0 t c = let none : c.args.k ≡ 0 = omega arith in rw none (adds_none _)
