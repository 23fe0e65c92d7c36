use Rattle.operation.specs.Perform.{part_reach, data_reach}
use Rattle.operation_data.proofs.data_reach.Goals as goal

pub returns-in_default : goal.returns-in_default
unfolding data_reach
returns-in_default c = simp (c.in_default.is, ← c.byte_below.ensures)

pub returns-in_default-specified_part : goal.returns-in_default-specified_part
unfolding data_reach part_reach
returns-in_default-specified_part c = simp (c.in_default-specified_part.is, ← c.specified_part.ensures, c.in-Some.is, ← c.byte_below.ensures)

pub returns : goal.returns
unfolding data_reach part_reach
returns c = simp (c.in-Some-specified_part.is, ← c.specified_part.ensures, c.in-Some.is, ← c.byte_below.ensures)
