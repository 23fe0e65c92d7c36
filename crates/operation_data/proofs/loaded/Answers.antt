use mathlib.Core.Path.{ap, ◌∙◌}
use native.Mathlib.Omega.{arith}
use Rattle.word.specs.Parts.{extracted}
use Rattle.word.proofs.Laws.Parts.{whole_extracted}
use Rattle.operation_data.proofs.loaded.Goals as goal

pub returns-then-part-ge64 : goal.returns-then-part-ge64
returns-then-part-ge64 c = whole_extracted c.args.part c.at_or.result (omega arith) (omega arith) ∙ ap (extracted c.args.part) c.at_or.ensures

pub returns : goal.returns
returns c = c.extracted.ensures ∙ ap (extracted c.args.part) c.at_or-2.ensures
