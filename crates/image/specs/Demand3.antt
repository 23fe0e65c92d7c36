-- Demand 3: what a whole run is, and two that agree on a task.
use Rattle.std.specs.Prelude.{◌≡◌, true, List, ℕ}
use Rattle.step.specs.Queues.{occ}
use Rattle.run.specs.Schedule.{schedule_sound}
use Rattle.run.specs.Run.{run}
use Rattle.run.specs.Compared.{Compared, SameProgram, SameConstants, Alone}
use Rattle.image.specs.Codec.{Bytes}
use Rattle.image.specs.Image.{Image, state_of, good, decode}

-- an accepted image, read, and run over its own accepted schedule, with the flag down at the end
pub record WholeRun (bytes schedule : List ℕ) (i : Image) : Type 0 where
  -- the image is a string of bytes
  pub string : Bytes bytes
  -- accepted: reading it into long enough buffers isn't refused, and gives i
  pub accepted : decode bytes ≡ good i
  -- neither 9 nor 10 applies to the schedule
  pub scheduled : schedule_sound schedule ≡ true
  -- the flag is down at the end of the run
  pub down : (run schedule (state_of i)).state.table.users.flag ≡ 0

-- two whole runs that agree on task t
pub record Agreed (t : ℕ) (schedule schedule' : List ℕ) (i i' : Image) : Type 0 where
  -- both list t or neither does: CB, windows, registers, data words, processes in queue order without their numbers (those in its queue and those in its
  -- SFU queue), trap record
  pub task : Compared t (state_of i) (state_of i')
  -- program words
  pub program : SameProgram t (state_of i) (state_of i')
  -- all of constant memory: word and quality at every real address
  pub constants : SameConstants (state_of i) (state_of i')
  -- number of its items
  pub items : occ t schedule ≡ occ t schedule'
  -- its register and data windows meet no other task's in either image
  pub alone : Alone t (state_of i)
  pub alone' : Alone t (state_of i')
