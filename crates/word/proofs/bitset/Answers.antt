use Rattle.std.proofs.Common.{◌-◌, ◌%◌, ap, ◌∙◌}
use lib.Bits.{bit_or}
use Rattle.word.specs.Bits.{bitset_of}
use Rattle.word.proofs.Computed.{or_weight}
use Rattle.word.proofs.bitset.Goals as goal

pub returns : goal.returns
unfolding bitset_of
returns c = let a = c.args.a in ap (bit_or a) c.weight.ensures ∙ or_weight a (63 - c.args.n % 64)
