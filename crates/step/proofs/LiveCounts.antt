-- The live counts: those that are stored are those found by counting, in every sound state, and an item keeps them so. Over any instruction set.
use Rattle.std.specs.Prelude.{◌≡◌, true, false, ℕ, ◌+◌, length}
use Rattle.operation.specs.Environment.{Environment}
use Rattle.operation.specs.declared.Decision.{Decision}
use Rattle.step.specs.declared.Processes.{Processes}
use Rattle.step.specs.Queues.{live_counts, live_total}
use Rattle.step.specs.State.{State, live_count, processes_of, waiting_of}
use Rattle.step.specs.Step.{item_by}
use Rattle.step.specs.Soundness.{live_sound, sound}
use Rattle.step.proofs.Laws.Sound.{sound_parts}
use Rattle.step.proofs.Laws.Counted.{live_counted}
use Rattle.step.proofs.Laws.LiveCounts.{count_stored, counted_passes, differs}
use Rattle.step.proofs.Laws.Item.{item_live}

-- of each task and in all
pub record Counted (table : Processes) : Type 0 where
  pub counts : table.live ≡ live_counts table.queues
  pub total : table.count ≡ live_total table.queues

passes_counted : (table : Processes) → live_sound table ≡ true → Counted table
passes_counted table e = let u = live_counted table e in record { counts = u.0; total = u.1 }

-- in a sound state they are the counted ones
pub sound_counted : (s : State) → sound s ≡ true → Counted s.table.users
sound_counted s e = passes_counted s.table.users (sound_parts s e).table.counted

-- a state in which one differs is not sound: 8
pub uncounted_unsound : (s : State) → (Counted s.table.users → ⊥) → sound s ≡ false
uncounted_unsound s n = differs (sound s) (λ e. n (sound_counted s e))

-- the count that is stored for a task is the number of its processes
pub stored_live : (table : Processes) (t : ℕ) → Counted table → live_count table t ≡ length (processes_of table t) + length (waiting_of table t)
stored_live table t c = count_stored table t c.counts

-- an item keeps them equal
pub item_keeps_counted : (instructions : Environment → Decision) (t : ℕ) (s : State) → Counted s.table.users
    → Counted (item_by instructions t s).state.table.users
item_keeps_counted instructions t s c =
    passes_counted (item_by instructions t s).state.table.users (item_live instructions t s (counted_passes s.table.users c.counts c.total))
