use Rattle.operation_decide.specs.Laws.Codes.{outside, fetches_told}
use Rattle.operation_decide.proofs.decide.Goals as goal

pub returns-in_default : goal.returns-in_default
returns-in_default c = λ row s p d own. outside row _ _ _ _ _ _ _ _ _ p c.pc.ensures _ _ _ _ c.place_below.ensures c.in_default.is own

pub returns : goal.returns
returns c = λ row s p d own. fetches_told row _ _ _ _ _ _ _ _ _ p c.pc.ensures _ _ _ _ _ _ _ _ c.place_below.ensures c.in-Some.is c.at_or.ensures c.instruction_of-i.ensures c.decode.ensures _ _ _ _ (c.decide_code.ensures row _ _ s d own)
