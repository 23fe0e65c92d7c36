use Rattle.std.proofs.Common.{◌≡◌}
use Rattle.filling_search.specs.Code.Steps.{onto, tops_of}
use Rattle.filling_search.proofs.ceiling.Given as goal

abbrev pub invariant-loop-need : goal.invariant-loop-need
invariant-loop-need l = onto l.tops l.need-iterator.iter.rest.now ≡ tops_of l.needs
