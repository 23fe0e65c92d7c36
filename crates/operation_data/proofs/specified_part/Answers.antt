use mathlib.Core.Path.{sym, ◌∙◌}
use Rattle.operation.proofs.Laws.Found.{told}
use Rattle.operation_data.specs.Laws.Specified.{byte_specified, whole_specified, quarter_specified, none_specified, half_specified}
use Rattle.operation_data.proofs.specified_part.Goals as goal

pub returns-then-whole : goal.returns-then-whole
returns-then-whole c = c.part.ensures ∙ sym (whole_specified _ _ (told c.whole.ensures c.if-whole.true))

pub returns-then-low-eq1 : goal.returns-then-low-eq1
returns-then-low-eq1 c = c.part-then-low-eq1.ensures ∙ sym (byte_specified _ _ c.if-low-eq1.true)

pub returns-then-bits-eq1 : goal.returns-then-bits-eq1
returns-then-bits-eq1 c = c.part-then-bits-eq1.ensures ∙ sym (quarter_specified _ _ c.if-low-eq1.false c.if-bits-eq1.true)

pub returns-then-bits-eq4 : goal.returns-then-bits-eq4
returns-then-bits-eq4 c = sym (none_specified _ _ c.if-low-eq1.false c.if-bits-eq4.true)

pub returns : goal.returns
returns c = c.part-2.ensures ∙ sym (half_specified _ _ c.if-low-eq1.false (told c.whole.ensures c.if-whole.false) c.if-bits-eq1.false c.if-bits-eq4.false)
