-- The next attempt of each task, by task: none where the item is idle.
use Rattle.std.specs.Prelude.{Option, Some, None}
use Rattle.std.specs.Prelude.{◌≡◌, ◌≢◌, Bool, true, false, cond, not, List, ℕ, ◌+◌, ◌*◌, ◌≤◌, ◌<◌, eqb, get_or}
use Rattle.step.specs.declared.Attempt.{Attempt}
use Rattle.step.specs.declared.Attempt.TheVariants.{Step, Try}
use Rattle.step.specs.declared.Ending.{Ending}
use Rattle.step.specs.declared.Queue.{Queue}
use Rattle.step.specs.declared.Motion.{Motion}
use Rattle.step.specs.declared.Motion.TheVariants.{Turns}
use Rattle.step.specs.Queues.{numbers, head_of}
use Rattle.step.specs.State.{queue_in}
use Rattle.step.specs.Step.{step_follows}
use Rattle.step.specs.Code.Parts.{executed_motion, moved_queues}
use Rattle.run_rings.specs.Code.Rings.{queues_in}
use Rattle.run_next.specs.declared.Next.{Next}
use Rattle.run_next.specs.declared.NextRole.{NextRole}
use Rattle.run_next.specs.declared.NextRole.TheVariants.{Alone, Several, Follows, Tries}

-- where tries are counted: those that end an item, and those that a step follows; and what is no place
abbrev pub try_places : ℕ
try_places = 4 * numbers

abbrev pub then_places : ℕ
then_places = 7 * numbers

abbrev pub no_place : ℕ
no_place = 9 * numbers

abbrev pub next_is : (pt : ℕ) → NextRole → Option Next
next_is p r = Some (record { pt = p; role = r })

-- that of task t
abbrev pub next_at : List (Option Next) → (t : ℕ) → Option Next
next_at l t = get_or l t None

unfoldable pub only : ℕ → NextRole
only n = cond (eqb n 1) Alone Several

-- where no item is under way: of an active task with the queue q and the SFU queue s
unfoldable pub item_next : (q s : Queue) → Option Next
item_next q s = cond (eqb s.len 0) (cond (eqb q.len 0) None (next_is (head_of q) (only q.len))) (next_is (head_of s) Tries)

-- of an active task t; `follows` says that its item has made its try, and its step is to come
unfoldable pub standing : (follows : Bool) → (t : ℕ) → List Queue → Option Next
standing false t qs = item_next (queue_in qs (2 * t)) (queue_in qs (2 * t + 1))
standing true t qs = next_is (head_of (queue_in qs (2 * t))) Follows

-- that of task t becomes n, and those of the other tasks stay
pub record Puts (t : ℕ) (n : Option Next) (l l' : List (Option Next)) : Type 0 where
  pub mine : next_at l' t ≡ n
  pub others : (u : ℕ) → u < numbers → u ≢ t → next_at l' u ≡ next_at l u

-- what the next attempt is, where there is one
pub data Acting (t : ℕ) (l : List (Option Next)) (qs : List Queue) : Type 0 where
  alone : next_at l t ≡ next_is (head_of (queue_in qs (2 * t))) Alone → (queue_in qs (2 * t)).len ≡ 1 → (queue_in qs (2 * t + 1)).len ≡ 0 → Acting t l qs
  several : next_at l t ≡ next_is (head_of (queue_in qs (2 * t))) Several → 2 ≤ (queue_in qs (2 * t)).len → (queue_in qs (2 * t + 1)).len ≡ 0 → Acting t l qs
  follows : next_at l t ≡ next_is (head_of (queue_in qs (2 * t))) Follows → 1 ≤ (queue_in qs (2 * t)).len → Acting t l qs
  tries : next_at l t ≡ next_is (head_of (queue_in qs (2 * t + 1))) Tries → 1 ≤ (queue_in qs (2 * t + 1)).len → Acting t l qs

-- which attempt it is
unfoldable pub attempt_as : NextRole → Attempt
attempt_as Alone = Step
attempt_as Several = Step
attempt_as Follows = Step
attempt_as Tries = Try

unfoldable pub attempt_in : Option Next → Attempt
attempt_in None = Step
attempt_in (Some n) = attempt_as n.role

abbrev pub attempt_at : (t : ℕ) → List (Option Next) → Attempt
attempt_at t l = attempt_in (next_at l t)

-- whether it is the step that follows a try
unfoldable pub follows_try : Option Next → Bool
follows_try None = false
follows_try (Some n) = follows_role n.role
  where
    follows_role : NextRole → Bool
    follows_role Alone = false
    follows_role Several = false
    follows_role Follows = true
    follows_role Tries = false

-- whether the queue of task t has a process
unfoldable pub had_in : (t : ℕ) → (lens : List ℕ) → Bool
had_in t lens = not (eqb (get_or lens (2 * t) 0) 0)

-- whether the step of the item follows the attempt, where it does not trap; `had` says that the task's queue had a process before
unfoldable pub followed : Attempt → (had : Bool) → Bool
followed Step had = false
followed Try had = had

-- whether the step of the item follows an attempt that ends so
unfoldable pub goes_on : Attempt → (had : Bool) → Ending → Bool
goes_on Step had e = false
goes_on Try had e = step_follows had e

-- the place of the attempt's count: behind those of steps the tries that end an item, and those that a step follows
unfoldable pub place_after : Attempt → (had : Bool) → (place : ℕ) → ℕ
place_after Step had p = p
place_after Try had p = cond had (then_places + p) (try_places + p)

-- what becomes of the queues by an attempt whose process goes on, or waits though not for a data word
unfoldable pub going_motion : (waits : Bool) → Attempt → Motion
going_motion false a = executed_motion a
going_motion true a = Turns

-- queues and next attempts behind an attempt of task t that does not trap
pub record Goes (t : ℕ) (had : Bool) (m : Attempt → Motion) (pts heads lens : List ℕ) (l : List (Option Next)) (pts' heads' lens' : List ℕ) (l' : List (Option Next)) : Type 0 where
  pub queues : queues_in pts' heads' lens' ≡ moved_queues (m (attempt_at t l)) (attempt_at t l) t (queues_in pts heads lens)
  pub puts : Puts t (standing (followed (attempt_at t l) had) t (queues_in pts' heads' lens')) l l'
