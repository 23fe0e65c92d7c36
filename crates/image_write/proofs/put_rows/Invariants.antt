use lib.ListN.{drop}
use Rattle.image_write.specs.Code.Bytes.{rows_bytes}
use Rattle.image_write.proofs.Going.{Going}
use Rattle.image_write.proofs.put_rows.Given as goal

abbrev pub invariant-loop-row : goal.invariant-loop-row
invariant-loop-row l = Going l.at (rows_bytes l.rows) l.initial.output l.output l.p (rows_bytes (drop l.row-index l.rows))
