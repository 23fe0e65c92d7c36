-- What the loop over the attempts of a run keeps.
use Rattle.std.specs.Prelude.{Option}
use Rattle.std.specs.Prelude.{◌≡◌, Bool, true, false, cond, List, ℕ, ◌+◌, ◌-◌, ◌*◌, ◌≤◌, ◌<◌, length, get_or, drop}
use Rattle.window.specs.declared.Row.{Row}
use Rattle.operation.specs.Decide.{decide}
use Rattle.step.specs.declared.Queue.{Queue}
use Rattle.step.specs.State.{State}
use Rattle.run.specs.Run.{Tally, run}
use Rattle.run.specs.Code.Attempts.{run_from}
use Rattle.run_next.specs.Code.Settled.{Lines, queues_of}
use Rattle.run_next.specs.declared.Next.{Next}
use Rattle.run_next.specs.Code.Next.{next_at, follows_try}
use Rattle.run_next.specs.Code.Stands.{Stands, Between}
use Rattle.run_next.specs.Code.Numbers.{Cells, state_from, Numbers}

-- i items are done, and from here the others do what all do from the start; `tried` says that the next item has made its try, and its step is to come
pub record Runs (l : List ℕ) (i : ℕ) (tried : Bool) (s₀ s : State) (c : Tally) : Type 0 where
  pub within : i ≤ length l
  pub counts : c.counts.executed + c.counts.waved + c.counts.trapped + c.counts.idle ≡ i
  pub tries : c.counts.tries ≤ i + cond tried 1 0
  pub runs : run_from decide tried (drop i l) s c ≡ run l s₀

-- what stands of the next attempts
pub data Standing (l : List ℕ) (i : ℕ) (kinds : List ℕ) (next : List (Option Next)) (qs : List Queue) : (tried : Bool) → Type 0 where
  before : Stands kinds next qs → Standing l i kinds next qs false
  between : i < length l → Between (get_or l i 0) kinds next qs → Standing l i kinds next qs true

pub record Running (l : List ℕ) (i : ℕ) (s₀ : State) (rows : List Row) (spans : List ℕ) (x : Lines) (m : Cells) (c : Tally) : Type 0 where
  pub tried : Bool
  pub runs : Runs l i tried s₀ (state_from rows x m) c
  pub numbers : Numbers rows spans x m
  pub stands : Standing l i x.kinds x.next (queues_of x) tried

-- what is left to do: two attempts an item, and one of the item whose try is over
unfoldable pub left_over : (l : List ℕ) (i : ℕ) (next : List (Option Next)) → ℕ
left_over l i next = 2 * (length l - i) - cond (follows_try (next_at next (get_or l i 0))) 1 0
