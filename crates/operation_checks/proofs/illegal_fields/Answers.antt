use Rattle.operation_checks.proofs.illegal_fields.Goals as goal

pub returns-then-illegal_field : goal.returns-then-illegal_field
returns-then-illegal_field c = simp (c.if-illegal_field.true, ← c.illegal_field.ensures)

pub returns-then-illegal_field-2 : goal.returns-then-illegal_field-2
returns-then-illegal_field-2 c = simp (c.if-illegal_field-2.true, ← c.illegal_field-2.ensures, c.if-illegal_field.false, ← c.illegal_field.ensures)

pub returns : goal.returns
returns c = simp (← c.illegal_field-3.ensures, c.if-illegal_field-2.false, ← c.illegal_field-2.ensures, c.if-illegal_field.false, ← c.illegal_field.ensures)
