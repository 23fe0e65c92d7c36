use Rattle.std.proofs.Common.{arith}
use Rattle.word.proofs.Laws.Parts.{whole_placed, no_bits_placed}
use Rattle.word.proofs.Computed.{put_placed, put_lt}
use Rattle.word.proofs.placed.Goals as goal

pub returns-then-part-ge64 : goal.returns-then-part-ge64
returns-then-part-ge64 c = let a = c.args in whole_placed a.part a.register a.word (omega arith) (omega arith) (omega arith)

pub returns-then-part-eq0 : goal.returns-then-part-eq0
returns-then-part-eq0 c = let a = c.args in no_bits_placed a.part a.register a.word (omega arith)

pub overflow_add-result : goal.overflow_add-result
overflow_add-result c =
    let a = c.args in
    record { fits = put_lt a.part (omega arith) _ c.right_of-right.ensures a.register a.word (omega arith) (omega arith) }

pub returns : goal.returns
returns c = let a = c.args in put_placed a.part (omega arith) _ c.right_of-right.ensures a.register a.word
