use Rattle.hep_c.specs.Laws.Counts.{Listing}
use Rattle.hep_c.proofs.put_own.Given as goal

abbrev pub invariant-loop-i : goal.invariant-loop-i
invariant-loop-i l = Listing l.own l.initial.out l.out l.i
