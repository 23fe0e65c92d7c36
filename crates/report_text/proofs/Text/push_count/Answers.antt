use Rattle.report_text.specs.Laws.Texts.{adds_both}
use Rattle.report_text.proofs.Text.push_count.Goals as goal

pub returns : goal.returns
returns c = adds_both c.push_bytes.ensures c.push_decimal.ensures
