use Rattle.filling_search.specs.Laws.Choices.{Trying}
use Rattle.filling_search.proofs.try_choice.Given as goal

abbrev pub invariant-loop-need : goal.invariant-loop-need
invariant-loop-need l = Trying l.needs l.choice l.rest l.count l.sum l.need-index
