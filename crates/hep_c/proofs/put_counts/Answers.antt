use Rattle.report_text.specs.Texts.{tally}
use Rattle.hep_c.specs.Laws.Counts.{all_listed}
use Rattle.hep_c.proofs.put_counts.Goals as goal

pub returns : goal.returns
returns c = all_listed (tally c.args.c c.args.own) c.args.image c.args.report c.args.counts.now _ _ _ c.put_kinds.ensures c.put_numbers.ensures c.put_own.ensures
