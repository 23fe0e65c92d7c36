use Rattle.std.proofs.Common.{◌≡◌}
use Rattle.filling.specs.Filling.{best_of}
use Rattle.filling_search.proofs.best_of.Given as goal

abbrev pub invariant-loop-choice : goal.invariant-loop-choice
invariant-loop-choice l = l.best ≡ best_of l.needs l.choice
