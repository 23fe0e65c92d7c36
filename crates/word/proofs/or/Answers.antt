use Rattle.std.proofs.Common.{arith}
use Rattle.word.proofs.Computed.{or_digits}
use Rattle.word.proofs.or.Goals as goal

pub returns : goal.returns
returns c = or_digits _ _ (omega arith) (omega arith)
