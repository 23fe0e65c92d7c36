use Rattle.image_read.proofs.Rows.{Filling}
use Rattle.image_read.proofs.rows_at.Given as goal

abbrev pub invariant-loop-i : goal.invariant-loop-i
invariant-loop-i l = Filling l.image l.n l.initial.rows l.rows l.i
