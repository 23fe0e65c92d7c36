use Rattle.image_write.specs.Code.Lengths.{length_written}
use Rattle.image_write.proofs.length_written.Goals as goal

pub returns-in-Err : goal.returns-in-Err
unfolding length_written
returns-in-Err c = rw c.in-Err.is

pub returns-in-Ok : goal.returns-in-Ok
unfolding length_written
returns-in-Ok c = rw c.in-Ok.is
