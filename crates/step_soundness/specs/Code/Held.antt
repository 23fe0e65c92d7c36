-- A state as the code holds it: an array of seven rows of which the first n count, the process table, and lent slices.
use Rattle.std.specs.Prelude.{ℕ, Bool, ◌&&◌, ◌||◌, List, eqb, leb, take}
use Rattle.window.specs.declared.Row.{Row}
use Rattle.window.specs.Memories.{Memory, memory}
use Rattle.step.specs.declared.Queue.{Queue}
use Rattle.step.specs.declared.ProcessTable.{ProcessTable}
use Rattle.step.specs.State.{State}
use Rattle.step.specs.Soundness.{may_hold, queue_shaped, sound}

-- the state that is held
unfoldable pub state_in : (rows : List Row) → (n : ℕ) → ProcessTable → (constants : Memory) → (tags words program data_tags data_words : List ℕ) → State
state_in rows n table constants tags words program data_tags data_words = record {
  rows = take n rows;
  table = table;
  constants = constants;
  registers = memory tags words;
  program = program;
  data_words = memory data_tags data_words;
}

-- the queue with number k: in its array, and empty where it may hold no process
unfoldable pub queue_sound : List Row → (k : ℕ) → Queue → Bool
queue_sound rows k q = queue_shaped q && (eqb q.len 0 || may_hold rows k)

-- a sound state is held: no more rows than there are, and the tests of a state
unfoldable pub sound_in : (n : ℕ) → State → Bool
sound_in n s = leb n 7 && sound s
