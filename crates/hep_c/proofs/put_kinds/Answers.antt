use Rattle.hep_c.specs.Answers.{kinds_listed}
use Rattle.hep_c.proofs.put_kinds.Goals as goal

pub returns : goal.returns
unfolding kinds_listed
returns c = c.put_numbers.ensures
