use mathlib.Core.Path.{ap, ◌∙◌}
use Rattle.operation.specs.Results.{quality0, result_two}
use Rattle.operation_registers.proofs.result_two.Goals as goal

pub returns-in-Mov : goal.returns-in-Mov
unfolding result_two
returns-in-Mov c = simp c.in-Mov.is c.plain_result.ensures

pub returns-in-Not : goal.returns-in-Not
unfolding result_two
returns-in-Not c = simp c.in-Not.is (c.plain_result-in-Not.ensures ∙ ap quality0 c.not.ensures)

pub returns-in-Encode0 : goal.returns-in-Encode0
unfolding result_two
returns-in-Encode0 c = simp c.in-Encode0.is (c.plain_result-in-Encode0.ensures ∙ ap quality0 c.encode0.ensures)

pub returns-in-Encode1 : goal.returns-in-Encode1
unfolding result_two
returns-in-Encode1 c = simp c.in-Encode1.is (c.plain_result-in-Encode1.ensures ∙ ap quality0 c.encode1.ensures)

pub returns-in-Inc : goal.returns-in-Inc
unfolding result_two
returns-in-Inc c = simp c.in-Inc.is c.add.ensures

pub returns-in-Dec : goal.returns-in-Dec
unfolding result_two
returns-in-Dec c = simp c.in-Dec.is c.sub.ensures
