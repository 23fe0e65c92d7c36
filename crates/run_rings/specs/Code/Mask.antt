-- The free PTs as a word: digit p from the right is 1 where PT p is free.
use Rattle.std.specs.Prelude.{◌≡◌, List, ℕ, zero, suc, ◌-◌, ◌/◌, ◌%◌, ◌^◌, ◌<◌}
use Rattle.step.specs.declared.Queue.{Queue}
use Rattle.step.specs.Queues.{pt_count, occ, live_pts}
use Rattle.step_queue.specs.Code.Mask.{free_after}

-- the word in which every PT is free
abbrev pub all_free : ℕ
all_free = 2 ^ pt_count - 1

-- the word of the PTs that stand in no queue
abbrev pub free_word : List Queue → ℕ
free_word qs = free_after (live_pts qs) all_free

-- 1 where a count is zero, else 0
unfoldable pub none : ℕ → ℕ
none zero = 1
none (suc k) = 0

-- the word z says which PTs stand nowhere in a list
pub record Frees (z : ℕ) (l : List ℕ) : Type 0 where
  pub small : z < 2 ^ pt_count
  pub digit : (p : ℕ) → p < pt_count → z / 2 ^ p % 2 ≡ none (occ p l)
