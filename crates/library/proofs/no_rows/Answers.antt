use Rattle.library.specs.Empty.{no_rows}
use Rattle.library.proofs.no_rows.Goals as goal

pub returns : goal.returns
unfolding no_rows
returns c = simp (← c.empty_row-row.ensures)
