-- The numbers that a run carries, at its start and at its end.
use Rattle.std.specs.Prelude.{◌≡◌, true, List, ℕ, ◌^◌, ◌<◌, length, take}
use Rattle.window.specs.declared.Row.{Row}
use Rattle.step.specs.declared.Processes.{Processes}
use Rattle.step.specs.Queues.{numbers, pt_count, live_counts, live_total}
use Rattle.step.specs.State.{State, state}
use Rattle.step.specs.Act.{table_of}
use Rattle.step.specs.Soundness.{sound}
use Rattle.run.specs.declared.Counts.{Counts}
use Rattle.run.specs.Run.{no_tally, run}
use Rattle.run_rings.specs.declared.Tasks.{Tasks}
use Rattle.run_rings.specs.Code.Mask.{free_word}
use Rattle.run_rings.specs.Code.Spans.{Told, all_span_places}
use Rattle.run_next.specs.Code.Settled.{Lines, lines}
use Rattle.run_next.specs.Code.Stands.{Stands}
use Rattle.run_next.specs.Code.Numbers.{Cells, state_from, Numbers}
use Rattle.run_next.specs.Code.Tally.{tally_cells, tally_in}
use Rattle.run_next.specs.Code.Running.{Running}
use Rattle.run_schedule.specs.declared.Carried.{Carried}
use Rattle.run_schedule.specs.Code.Queued.{all_queues}

abbrev pub lines_of : Carried → Lines
lines_of r = lines r.queued.next r.queued.rings.pts r.queued.rings.heads r.queued.rings.lens r.kinds r.stored r.psws r.flag r.free r.count

-- trap records and counts stay
pub record Keeps (r r' : Carried) : Type 0 where
  pub kinds : r'.kinds ≡ r.kinds
  pub stored : r'.stored ≡ r.stored
  pub tally : r'.tally ≡ r.tally

-- the state of these rows and processes, their live counts worked out
unfoldable pub open_state : List Row → Processes → Cells → State
open_state rows users m = state rows (table_of users.psw users.queues users.flag) m.constants m.registers m.program m.data_words

-- a sound state, and its rows in numbers
pub record Opens (rows : List Row) (users : Processes) (tasks : Tasks) (m : Cells) : Type 0 where
  pub told : Told rows tasks.kinds tasks.stored tasks.spans numbers
  pub counted : users.count ≡ live_total users.queues
  pub sound : sound (open_state rows users m) ≡ true

pub record Opened (users : Processes) (tasks : Tasks) (m : Cells) : Type 0 where
  pub rows : List Row
  pub wide : length tasks.spans ≡ all_span_places
  pub opens : Opens rows users tasks m

-- the numbers at the start
pub record Begins (users : Processes) (tasks : Tasks) (r : Carried) : Type 0 where
  pub queues : all_queues r.queued.rings ≡ users.queues
  pub stands : Stands r.kinds r.queued.next (all_queues r.queued.rings)
  pub kinds : r.kinds ≡ tasks.kinds
  pub stored : r.stored ≡ tasks.stored
  pub psws : take pt_count r.psws ≡ users.psw
  pub flag : r.flag ≡ users.flag
  pub free : r.free ≡ free_word users.queues
  pub count : r.count ≡ users.count
  pub tally : tally_in r.tally ≡ no_tally

-- the numbers at the end, of a run from the state s
pub record Ends (rows : List Row) (spans schedule : List ℕ) (s : State) (r : Carried) (m : Cells) : Type 0 where
  pub ran : record { state = state_from rows (lines_of r) m; notes = tally_in r.tally } ≡ run schedule s
  pub numbers : Numbers rows spans (lines_of r) m

-- the processes at the end
unfoldable pub users_of : Carried → Processes
users_of r = record {
  psw = take pt_count r.psws;
  queues = all_queues r.queued.rings;
  flag = r.flag;
  live = live_counts (all_queues r.queued.rings);
  count = r.count;
}

-- each count has 32 bits
pub record Small (c : Counts) : Type 0 where
  pub executed : c.executed < 2 ^ 32
  pub waved : c.waved < 2 ^ 32
  pub trapped : c.trapped < 2 ^ 32
  pub idle : c.idle < 2 ^ 32
  pub tries : c.tries < 2 ^ 32

-- what the loop over the attempts keeps: r₀ and m₀ are the numbers and memories at the start, r and m those before the next attempt
pub record Looping (schedule : List ℕ) (i : ℕ) (spans : List ℕ) (r₀ : Carried) (m₀ : Cells) (r : Carried) (m : Cells) : Type 0 where
  pub running : (rows : List Row) → Numbers rows spans (lines_of r₀) m₀ → Running schedule i (state_from rows (lines_of r₀) m₀) rows spans (lines_of r) m (tally_in r.tally)
  pub kinds : length r.kinds ≡ numbers
  pub stored : length r.stored ≡ numbers
  pub cells : length r.tally ≡ tally_cells
