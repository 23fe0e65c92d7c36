-- The queues in rings and the next attempts, as the functions over them take them.
use Rattle.std.specs.Prelude.{◌≡◌, Some, List, ℕ, ◌+◌, ◌*◌, ◌≤◌, ◌<◌, get_or}
use Rattle.step.specs.declared.Attempt.{Attempt}
use Rattle.step.specs.declared.Motion.{Motion}
use Rattle.step.specs.declared.Queue.{Queue}
use Rattle.step.specs.Queues.{numbers, places}
use Rattle.run_rings.specs.declared.Rings.{Rings}
use Rattle.run_rings.specs.Code.Rings.{queue_at, queues_in, Moves}
use Rattle.run_next.specs.declared.Next.{Next}
use Rattle.run_next.specs.Code.Next.{next_at, had_in, Acting, Goes}
use Rattle.run_schedule.specs.declared.Queued.{Queued}

abbrev pub queue_of : Rings → (k : ℕ) → Queue
queue_of r k = queue_at r.pts r.heads r.lens k

abbrev pub all_queues : Rings → List Queue
all_queues r = queues_in r.pts r.heads r.lens

-- f is done to the queue in ring k, and the queues in all other rings stay
abbrev pub RingMoves : (k : ℕ) (f : Queue → Queue) (r r' : Rings) → Type 0
RingMoves k f r r' = Moves k f r.pts r.heads r.lens r'.pts r'.heads r'.lens

-- queues and next attempts behind an attempt of task t that does not trap
abbrev pub QueuedGoes : (t : ℕ) (m : Attempt → Motion) (q q' : Queued) → Type 0
QueuedGoes t m q q' = Goes t (had_in t q.rings.lens) m q.rings.pts q.rings.heads q.rings.lens q.next q'.rings.pts q'.rings.heads q'.rings.lens q'.next

-- how many processes the two queues of task t hold
abbrev pub both_lens : (t : ℕ) → Rings → ℕ
both_lens t r = get_or r.lens (2 * t) 0 + get_or r.lens (2 * t + 1) 0

-- task t makes the attempt n, and its two queues together hold no more processes than one has places
pub record Acts (t : ℕ) (n : Next) (q : Queued) : Type 0 where
  pub small : t < numbers
  pub next : next_at q.next t ≡ Some n
  pub acting : Acting t q.next (all_queues q.rings)
  pub fits : both_lens t q.rings ≤ places
