use Rattle.hep_c.specs.Answers.{sizes_listed}
use Rattle.hep_c.proofs.put_sizes.Goals as goal

pub returns : goal.returns
unfolding sizes_listed
returns c = let both = c.put_listed.ensures in record { answer = both.answer; left = both.left }
