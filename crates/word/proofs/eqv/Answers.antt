use Rattle.std.proofs.Common.{arith}
use Rattle.word.proofs.Computed.{eqv_digits}
use Rattle.word.proofs.eqv.Goals as goal

pub returns : goal.returns
returns c = eqv_digits _ _ (omega arith) (omega arith)
