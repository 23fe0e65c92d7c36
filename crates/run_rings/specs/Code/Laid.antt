-- Queues into rings, and the trap records and windows of rows into numbers by task.
use Rattle.std.specs.Prelude.{ℕ, zero, suc, ◌*◌, List, [], ◌∷◌, set, replicate, Option, None, Some}
use Rattle.std.proofs.Math.Seq.{paste}
use Rattle.window.specs.declared.Row.{Row}
use Rattle.step.specs.declared.Queue.{Queue}
use Rattle.step.specs.Queues.{places, numbers}
use Rattle.step.specs.State.{find_row}
use Rattle.run_rings.specs.declared.Rings.{Rings}
use Rattle.run_rings.specs.declared.Tasks.{Tasks}
use Rattle.run_rings.specs.Code.Spans.{all_span_places, windows_laid}
use Rattle.run_rings.specs.Code.Rings.{ring_count, ring_places}

abbrev pub rings : (pts heads lens : List ℕ) → Rings
rings pts heads lens = record { pts = pts; heads = heads; lens = lens }

abbrev pub no_rings : Rings
no_rings = rings (replicate ring_places 0) (replicate ring_count 0) (replicate ring_count 0)

-- a queue into ring k
unfoldable pub queue_laid : (k : ℕ) → Queue → Rings → Rings
queue_laid k q x = rings (paste x.pts (places * k) q.pts places) (set x.heads k q.head) (set x.lens k q.len)

-- queues into the rings from ring k on
unfoldable pub queues_laid : (k : ℕ) → List Queue → Rings → Rings
queues_laid k [] x = x
queues_laid k (q ∷ qs) x = queues_laid (suc k) qs (queue_laid k q x)

abbrev pub task_numbers : (kinds stored spans : List ℕ) → Tasks
task_numbers kinds stored spans = record { kinds = kinds; stored = stored; spans = spans }

abbrev pub no_tasks : Tasks
no_tasks = task_numbers (replicate numbers 0) (replicate numbers 0) (replicate all_span_places 0)

-- the trap record and the windows of the row of task t; they stay where it is unlisted
unfoldable pub row_laid : (t : ℕ) → Option Row → Tasks → Tasks
row_laid t None x = x
row_laid t (Some r) x = task_numbers (set x.kinds t r.kind) (set x.stored t r.psw) (windows_laid x.spans t r)

-- those of n tasks, task t first
unfoldable pub tasks_laid : (n t : ℕ) → List Row → Tasks → Tasks
tasks_laid zero t rows x = x
tasks_laid (suc n) t rows x = tasks_laid n (suc t) rows (row_laid t (find_row t rows) x)
