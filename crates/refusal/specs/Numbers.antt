-- The numbers of the refusals, in the order of document 01's table.
use Rattle.std.specs.Prelude.{ℕ}
use Rattle.refusal.specs.declared.Refusal.{Refusal}
use Rattle.refusal.specs.declared.Refusal.TheVariants.{InputEnds, CountOverLimit, TaskField, ProcessField, ConstantField, CellField, BytesLeftOver}
use Rattle.refusal.specs.declared.Refusal.TheVariants.{WindowPastMemory, ProcessesClash, ShortBuffer, UnsoundState, ListTooLong, ItemOutOfRange, InputTooLong, BadJobs, NoTries}

unfoldable pub number_of : Refusal → ℕ
-- program input over 65,536 bytes
number_of InputTooLong = 11
-- input ends before the schedule or the last section is whole
number_of InputEnds = 1
-- count over its limit
number_of CountOverLimit = 2
-- field out of range, by its section: of a task
number_of TaskField = 3
-- of a process, the flag with them
number_of ProcessField = 12
-- the quality of a constant
number_of ConstantField = 14
-- a tag or state
number_of CellField = 13
-- bytes left over
number_of BytesLeftOver = 4
-- a window that isn't empty ends past its memory
number_of WindowPastMemory = 5
-- a PT twice, or 64 processes with flag 0
number_of ProcessesClash = 6
-- a buffer to be filled is too short
number_of ShortBuffer = 7
-- a state that isn't sound: no image reads as it, or a live count is not the one found by counting
number_of UnsoundState = 8
-- a list of over 65,535 items
number_of ListTooLong = 9
-- an item not 1 to 7
number_of ItemOutOfRange = 10
-- more than 15 jobs, or a bad need
number_of BadJobs = 17
-- zero tries
number_of NoTries = 18
