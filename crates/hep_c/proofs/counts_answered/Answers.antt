use Rattle.hep_c.specs.Answers.{counts_answered}
use Rattle.hep_c.proofs.counts_answered.Goals as goal

pub returns-in-Err : goal.returns-in-Err
unfolding counts_answered
returns-in-Err c = rw c.in-Err.is

pub returns-in-Ok : goal.returns-in-Ok
unfolding counts_answered
returns-in-Ok c = rw c.in-Ok.is
