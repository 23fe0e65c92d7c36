use Rattle.std.proofs.Common.{ℕ, ◌/◌, ◌%◌, ◌^◌, ap, ◌∙◌, arith}
use Rattle.word.specs.Parts.{extracted}
use Rattle.word.proofs.Laws.Parts.{whole_extracted, no_bits_extracted}
use Rattle.word.proofs.Computed.{by_size}
use Rattle.word.proofs.extracted.Goals as goal

pub returns-then-part-ge64 : goal.returns-then-part-ge64
returns-then-part-ge64 c = let a = c.args in whole_extracted a.part a.word (omega arith) (omega arith)

pub returns-then-part-eq0 : goal.returns-then-part-eq0
returns-then-part-eq0 c = let a = c.args in no_bits_extracted a.part a.word (omega arith)

pub returns : goal.returns
unfolding extracted
returns c =
    let a = c.args in
    by_size a.part.width (omega arith) (a.word / 2 ^ c.right_of.result)
    ∙ ap (λ (k : ℕ). a.word / 2 ^ k % 2 ^ a.part.width) c.right_of.ensures
