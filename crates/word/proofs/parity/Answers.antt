use Rattle.std.proofs.Common.{ℕ, ◌%◌, ap, arith}
use Rattle.word.specs.Bits.{parity_of}
use Rattle.word.proofs.Computed.{ones_in_lem}
use Rattle.word.proofs.parity.Goals as goal

pub returns : goal.returns
unfolding parity_of
returns c = ap (λ (x : ℕ). x % 2) (ones_in_lem 64 c.args.a (omega arith))
