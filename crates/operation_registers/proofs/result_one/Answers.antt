use Rattle.operation.specs.Results.{result_one}
use Rattle.operation_registers.proofs.result_one.Goals as goal

pub returns-in-Clr : goal.returns-in-Clr
unfolding result_one
returns-in-Clr c = simp c.in-Clr.is c.plain_result.ensures

pub returns-in-Ones : goal.returns-in-Ones
unfolding result_one
returns-in-Ones c = simp c.in-Ones.is c.plain_result-in-Ones.ensures
