use Rattle.operation_checks.specs.Code.Operands.{destination_at}
use Rattle.operation_checks.proofs.found_destination.Goals as goal

pub returns : goal.returns
unfolding destination_at
returns c = simp (← c.number-place.ensures)
