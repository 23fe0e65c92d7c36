use Rattle.std.proofs.Common.{arith}
use Rattle.word.proofs.Computed.{digits_not}
use Rattle.word.proofs.not.Goals as goal

pub returns : goal.returns
returns c = digits_not _ (omega arith)
