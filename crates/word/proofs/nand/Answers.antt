use Rattle.std.proofs.Common.{arith}
use Rattle.word.proofs.Computed.{nand_digits}
use Rattle.word.proofs.nand.Goals as goal

pub returns : goal.returns
returns c = nand_digits _ _ (omega arith) (omega arith)
