use Rattle.hep_c.specs.Answers.{filling_listed}
use Rattle.hep_c.proofs.put_filling.Goals as goal

pub returns : goal.returns
unfolding filling_listed
returns c = let both = c.put_listed.ensures in record { answer = both.answer; left = both.left }
