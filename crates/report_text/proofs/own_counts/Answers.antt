use Rattle.std.proofs.Common.{◌∙◌, le_refl}
use Rattle.run.specs.Run.{own_counts, no_counts}
use Rattle.report_text.proofs.own_counts.Goals as goal

pub returns : goal.returns
unfolding own_counts
returns c = c.unwrap_or.ensures ∙ rw c.copied.ensures (c.get.ensures.lookup.4 (le_refl _) no_counts)
