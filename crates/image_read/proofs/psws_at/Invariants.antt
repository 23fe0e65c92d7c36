use Rattle.image_read.proofs.Table.{Setting}
use Rattle.image_read.proofs.psws_at.Given as goal

abbrev pub invariant-loop-i : goal.invariant-loop-i
invariant-loop-i l = Setting l.image l.at l.m l.psw l.i
