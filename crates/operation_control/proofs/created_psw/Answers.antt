use Rattle.operation_control.specs.Laws.Performed.{created_one}
use Rattle.operation_control.proofs.created_psw.Goals as goal

pub returns-then-act-eq1 : goal.returns-then-act-eq1
returns-then-act-eq1 c = created_one _ _ _ _ c.called_psw.ensures c.if-act-eq1.true

pub returns : goal.returns
returns c = c.created_fields.ensures
