-- The invariant of the next attempts: what stands of every task before an item, and between a try and its step.
use Rattle.std.specs.Prelude.{Option, None}
use Rattle.std.specs.Prelude.{◌≡◌, ◌≢◌, List, ℕ, ◌*◌, ◌≤◌, ◌<◌, true, false, get_or}
use Rattle.step.specs.declared.Queue.{Queue}
use Rattle.step.specs.Queues.{numbers}
use Rattle.step.specs.State.{queue_in}
use Rattle.step.specs.Step.{no_trap}
use Rattle.run_next.specs.declared.Next.{Next}
use Rattle.run_next.specs.Code.Next.{next_at, standing}

-- of task t: none where it has trapped or is unlisted (its trap kind is another), else what its two queues say
pub record StandsAt (kinds : List ℕ) (l : List (Option Next)) (qs : List Queue) (t : ℕ) : Type 0 where
  pub idle : get_or kinds t 0 ≢ no_trap → next_at l t ≡ None
  pub active : get_or kinds t 0 ≡ no_trap → next_at l t ≡ standing false t qs

-- before an item
pub record Stands (kinds : List ℕ) (l : List (Option Next)) (qs : List Queue) : Type 0 where
  pub stands : (t : ℕ) → t < numbers → StandsAt kinds l qs t

-- the item of task t has made its try, and its step is to come
pub record Between (t : ℕ) (kinds : List ℕ) (l : List (Option Next)) (qs : List Queue) : Type 0 where
  pub here : next_at l t ≡ standing true t qs
  pub active : get_or kinds t 0 ≡ no_trap
  pub some : 1 ≤ (queue_in qs (2 * t)).len
  pub stands : (u : ℕ) → u < numbers → u ≢ t → StandsAt kinds l qs u

-- of the tasks below n the next attempts stand, of the others there is none yet
pub record Laid (n : ℕ) (kinds : List ℕ) (l : List (Option Next)) (qs : List Queue) : Type 0 where
  pub stands : (t : ℕ) → t < n → t < numbers → StandsAt kinds l qs t
  pub none : (t : ℕ) → n ≤ t → t < numbers → next_at l t ≡ None
