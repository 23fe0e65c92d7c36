-- Queues side by side in numbers: of ring k the 64 places from 64 k on, its head and its length at k.
use Rattle.std.specs.Prelude.{◌≡◌, ◌≢◌, List, [], ◌∷◌, ℕ, zero, suc, ◌*◌, get_or, take, drop}
use Rattle.step.specs.declared.Queue.{Queue}
use Rattle.step.specs.Queues.{places, queue_count}

-- rings by number of queue: 2 t the queue of task t, 2 t + 1 its SFU queue
abbrev pub ring_count : ℕ
ring_count = queue_count

abbrev pub ring_places : ℕ
ring_places = ring_count * places

-- the queue in ring k
unfoldable pub queue_at : (pts heads lens : List ℕ) (k : ℕ) → Queue
queue_at pts heads lens k = record { pts = take places (drop (places * k) pts); head = get_or heads k 0; len = get_or lens k 0 }

-- the queues in n rings, ring k first
unfoldable pub queues_from : (n k : ℕ) (pts heads lens : List ℕ) → List Queue
queues_from zero k pts heads lens = []
queues_from (suc n) k pts heads lens = queue_at pts heads lens k ∷ queues_from n (suc k) pts heads lens

-- the queues in all rings
unfoldable pub queues_in : (pts heads lens : List ℕ) → List Queue
queues_in pts heads lens = queues_from ring_count 0 pts heads lens

-- f is done to the queue in ring k, and the queues in all other rings stay
pub record Moves (k : ℕ) (f : Queue → Queue) (pts heads lens pts' heads' lens' : List ℕ) : Type 0 where
  pub mine : queue_at pts' heads' lens' k ≡ f (queue_at pts heads lens k)
  pub others : (j : ℕ) → j ≢ k → queue_at pts' heads' lens' j ≡ queue_at pts heads lens j
