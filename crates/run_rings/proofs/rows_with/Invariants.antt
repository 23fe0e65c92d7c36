use Rattle.std.proofs.Common.{◌≡◌}
use Rattle.run_rings.specs.Code.Records.{rows_with}
use Rattle.run_rings.proofs.rows_with.Given as goal

abbrev pub invariant-loop-i : goal.invariant-loop-i
invariant-loop-i l = l.next ≡ rows_with l.kinds l.stored l.rows l.i
