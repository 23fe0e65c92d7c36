use Rattle.std.proofs.Common.{ℕ, ◌-◌, ap, ◌∙◌}
use lib.Bits.{bit_and}
use Rattle.word.specs.Bits.{bitclr_of}
use Rattle.word.proofs.Computed.{sub_weight}
use Rattle.word.proofs.bitclr.Goals as goal

pub returns : goal.returns
unfolding bitclr_of
returns c = let a = c.args.a in ap (λ (x : ℕ). a - bit_and a x) c.weight.ensures ∙ sub_weight a _
