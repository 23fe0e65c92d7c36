use mathlib.Core.Path.{ap, ◌∙◌}
use native.Mathlib.Omega.{arith}
use Rattle.word.specs.Parts.{placed}
use Rattle.word.proofs.Laws.Parts.{whole_placed}
use Rattle.operation_data.proofs.stored.Goals as goal

pub returns-then-part-ge64 : goal.returns-then-part-ge64
returns-then-part-ge64 c = whole_placed c.args.part c.args.word _ (omega arith) (omega arith) (c.shared_slice_known-1.given c.args.p).fits

pub returns : goal.returns
returns c = c.placed.ensures ∙ ap (placed c.args.part c.args.word) c.at_or.ensures
