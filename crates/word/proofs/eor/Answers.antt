use Rattle.std.proofs.Common.{arith}
use Rattle.word.proofs.Computed.{eor_digits}
use Rattle.word.proofs.eor.Goals as goal

pub returns : goal.returns
returns c = eor_digits _ _ (omega arith) (omega arith)
