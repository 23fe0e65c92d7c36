use Rattle.operation.specs.Codes.{data_code_of}
use borrow.Author.Tests.{lt-ltb, le-ltb}
use Rattle.operation_decode.proofs.data_code.Goals as goal

pub returns-then-low-lt32 : goal.returns-then-low-lt32
unfolding data_code_of
returns-then-low-lt32 c = simp (lt-ltb _ _ c.if-low-lt32.true)

pub returns-else-low-lt32 : goal.returns-else-low-lt32
unfolding data_code_of
returns-else-low-lt32 c = simp (le-ltb _ _ c.if-low-lt32.false)
