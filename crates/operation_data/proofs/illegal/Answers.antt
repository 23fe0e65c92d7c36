use Rattle.operation_data.proofs.illegal.Goals as goal

pub returns-then-access : goal.returns-then-access
returns-then-access c = simp c.if-access.true

pub returns : goal.returns
returns c = simp (← c.illegal_fields.ensures, c.if-access.false)
