use Rattle.benchmark.specs.Calls.{is_read}
use Rattle.benchmark.proofs.is_read.Goals as goal

pub returns-in-Err : goal.returns-in-Err
unfolding is_read
returns-in-Err c = rw c.in-Err.is

pub returns-in-Ok : goal.returns-in-Ok
unfolding is_read
returns-in-Ok c = rw c.in-Ok.is
