use Rattle.operation_checks.specs.Code.Operands.{source_at}
use Rattle.operation_checks.proofs.found_source.Goals as goal

pub returns : goal.returns
unfolding source_at
returns c = simp (← c.number.ensures, ← c.cell-cell.ensures)
