use Rattle.std.proofs.Common.{arith}
use Rattle.word.proofs.Computed.{nor_digits}
use Rattle.word.proofs.nor.Goals as goal

pub returns : goal.returns
returns c = nor_digits _ _ (omega arith) (omega arith)
