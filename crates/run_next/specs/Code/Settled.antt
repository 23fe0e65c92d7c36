-- The numbers of a run that an attempt changes besides the memories, and what becomes of them by its course.
use Rattle.std.specs.Prelude.{Option, Some, None}
use Rattle.std.specs.Prelude.{◌≡◌, Bool, true, false, List, ℕ, ◌+◌, ◌-◌, ◌*◌, ◌^◌, ◌≤◌, ◌<◌, get_or, set}
use Rattle.std.specs.Int.Count.{count_trailing_zeros}
use Rattle.operation.specs.declared.Course.{Course}
use Rattle.operation.specs.declared.Course.TheVariants as go
use Rattle.operation.specs.declared.Trap.{Trap}
use Rattle.operation.specs.declared.Trap.TheVariants as trap
use Rattle.step.specs.declared.Attempt.{Attempt}
use Rattle.step.specs.declared.Ending.{Ending}
use Rattle.step.specs.declared.Ending.TheVariants.{Executed, Waved, Trapped, Idle}
use Rattle.step.specs.declared.Queue.{Queue}
use Rattle.step.specs.declared.StepResult.{StepResult}
use Rattle.step.specs.Queues.{places, pt_count, numbers, below_total}
use Rattle.step.specs.Act.{joined_at}
use Rattle.step.specs.Code.Parts.{moved_queues, flag_after, created_motion}
use Rattle.step.specs.Code.Performs.{course_result}
use Rattle.run_rings.specs.Code.Rings.{queues_in}
use Rattle.run_rings.specs.Code.Records.{kinds_after, stored_after}
use Rattle.run_next.specs.declared.Next.{Next}
use Rattle.run_next.specs.Code.Next.{next_at, standing, Puts, Acting, attempt_at, had_in, followed, place_after, Goes}

-- queues side by side, the next attempts, trap records by task, PSWs by PT (and at 64 that of a created process), the create fault flag, the word of
-- free PTs, how many processes live
pub record Lines : Type 0 where
  pub pts : List ℕ
  pub heads : List ℕ
  pub lens : List ℕ
  pub next : List (Option Next)
  pub kinds : List ℕ
  pub stored : List ℕ
  pub psws : List ℕ
  pub flag : ℕ
  pub free : ℕ
  pub count : ℕ

abbrev pub lines : (next : List (Option Next)) (pts heads lens kinds stored psws : List ℕ) → (flag free count : ℕ) → Lines
lines l a b c k s w f z n = record { pts = a; heads = b; lens = c; next = l; kinds = k; stored = s; psws = w; flag = f; free = z; count = n }

abbrev pub queues_of : Lines → List Queue
queues_of x = queues_in x.pts x.heads x.lens

-- the attempt that task t makes next, and what its course makes of it, p being the PSW that its process then has
abbrev pub attempt_of : (t : ℕ) → Lines → Attempt
attempt_of t x = attempt_at t x.next

unfoldable pub result_by : (t : ℕ) → Course → (p : ℕ) → Lines → StepResult
result_by t c p x = course_result (attempt_of t x) (count_trailing_zeros pt_count x.free) (below_total x.count) p c

-- the place of the attempt's count
unfoldable pub place_of : Attempt → (had : Bool) → Ending → ℕ
place_of a had Executed = place_after a had 0
place_of a had Waved = place_after a had numbers
place_of a had (Trapped k p) = place_after a false (2 * numbers)
place_of a had Idle = 3 * numbers

-- the next attempt of the task: none where it trapped
unfoldable pub next_by : (t : ℕ) → Attempt → (had : Bool) → Ending → List Queue → Option Next
next_by t a had Executed qs = standing (followed a had) t qs
next_by t a had Waved qs = standing (followed a had) t qs
next_by t a had (Trapped k p) qs = None
next_by t a had Idle qs = None

-- a PT given back, a PT taken
unfoldable pub free_by : Course → (pt free : ℕ) → ℕ
free_by go.Quits pt z = z + 2 ^ pt
free_by go.Creates pt z = z - 2 ^ count_trailing_zeros pt_count z
free_by go.Continues pt z = z
free_by go.Waits pt z = z
free_by go.WaitsForData pt z = z
free_by go.CreateFault pt z = z
free_by go.IllegalInstruction pt z = z
free_by go.ProtectionViolation pt z = z
free_by go.PrivilegedInstruction pt z = z
free_by go.SupervisorCall pt z = z
free_by go.SimulatedInstruction pt z = z
free_by go.DataException pt z = z

unfoldable pub count_by : Course → ℕ → ℕ
count_by go.Quits n = n - 1
count_by go.Creates n = n + 1
count_by go.Continues n = n
count_by go.Waits n = n
count_by go.WaitsForData n = n
count_by go.CreateFault n = n
count_by go.IllegalInstruction n = n
count_by go.ProtectionViolation n = n
count_by go.PrivilegedInstruction n = n
count_by go.SupervisorCall n = n
count_by go.SimulatedInstruction n = n
count_by go.DataException n = n

-- the PSW of a created process goes to its PT
unfoldable pub psws_by : Course → (free : ℕ) → List ℕ → List ℕ
psws_by go.Creates z w = set w (count_trailing_zeros pt_count z) (get_or w pt_count 0)
psws_by go.Quits z w = w
psws_by go.Continues z w = w
psws_by go.Waits z w = w
psws_by go.WaitsForData z w = w
psws_by go.CreateFault z w = w
psws_by go.IllegalInstruction z w = w
psws_by go.ProtectionViolation z w = w
psws_by go.PrivilegedInstruction z w = w
psws_by go.SupervisorCall z w = w
psws_by go.SimulatedInstruction z w = w
psws_by go.DataException z w = w

-- the queues have room, and task t makes the attempt n
pub record Ready (t : ℕ) (n : Next) (c : Course) (x : Lines) : Type 0 where
  pub small : t < numbers
  pub next : next_at x.next t ≡ Some n
  pub acting : Acting t x.next (queues_of x)
  pub fits : get_or x.lens (2 * t) 0 + get_or x.lens (2 * t + 1) 0 ≤ places
  pub given : c ≡ go.Quits → (n.pt < pt_count) × (x.free + 2 ^ n.pt < 2 ^ pt_count) × (0 < x.count)
  pub taken : c ≡ go.Creates → (count_trailing_zeros pt_count x.free < pt_count) × (2 ^ count_trailing_zeros pt_count x.free ≤ x.free) × (x.count < pt_count) × (get_or x.lens (2 * t) 0 + get_or x.lens (2 * t + 1) 0 < places)

-- what a create does to queues and flag, by whether one process more is fewer than the total: then the created process joins behind its creator, else
-- the creator stays head, no place says that it traps, and the next attempt is still to be put
pub record Makes (t p : ℕ) (below : Bool) (r : Option ℕ) (next : List (Option Next)) (pts heads lens : List ℕ) (flag : ℕ) (next' : List (Option Next)) (pts' heads' lens' : List ℕ) (flag' : ℕ) : Type 0 where
  pub goes : below ≡ true → (r ≡ Some (place_after (attempt_at t next) (had_in t lens) 0)) × Goes t (had_in t lens) (λ a. created_motion a p) pts heads lens next pts' heads' lens' next' × (flag' ≡ flag)
  pub faults : below ≡ false → (r ≡ None) × (queues_in pts' heads' lens' ≡ joined_at (queues_in pts heads lens) (2 * t) p) × (next' ≡ next) × (flag' ≡ 1)

-- all but the trap record, the place and the next attempt
pub record Moved (t pt : ℕ) (c : Course) (p : ℕ) (x y : Lines) : Type 0 where
  pub queues : queues_of y ≡ moved_queues (result_by t c p x).motion (attempt_of t x) t (queues_of x)
  pub flag : y.flag ≡ flag_after (result_by t c p x).motion x.flag
  pub free : y.free ≡ free_by c pt x.free
  pub count : y.count ≡ count_by c x.count
  pub psws : y.psws ≡ psws_by c x.free x.psws

-- the numbers after the attempt of task t with the process pt, against those before
pub record Settles (t pt : ℕ) (c : Course) (p r : ℕ) (x y : Lines) : Type 0 where
  pub moved : Moved t pt c p x y
  pub place : r ≡ place_of (attempt_of t x) (had_in t x.lens) (result_by t c p x).ending
  pub kinds : y.kinds ≡ kinds_after (result_by t c p x).ending t x.kinds
  pub stored : y.stored ≡ stored_after (result_by t c p x).ending t x.stored
  pub next : Puts t (next_by t (attempt_of t x) (had_in t x.lens) (result_by t c p x).ending (queues_of y)) x.next y.next

-- the place of a course that only moves the process on
unfoldable pub going_place : Course → Option ℕ
going_place go.Continues = Some 0
going_place go.Waits = Some numbers
going_place go.WaitsForData = None
going_place go.Quits = None
going_place go.Creates = None
going_place go.CreateFault = None
going_place go.IllegalInstruction = None
going_place go.ProtectionViolation = None
going_place go.PrivilegedInstruction = None
going_place go.SupervisorCall = None
going_place go.SimulatedInstruction = None
going_place go.DataException = None

-- the trap kind of a course that traps; a create that reached the total faults
unfoldable pub trap_by : Course → Trap
trap_by go.IllegalInstruction = trap.IllegalInstruction
trap_by go.ProtectionViolation = trap.ProtectionViolation
trap_by go.PrivilegedInstruction = trap.PrivilegedInstruction
trap_by go.SupervisorCall = trap.SupervisorCall
trap_by go.SimulatedInstruction = trap.SimulatedInstruction
trap_by go.DataException = trap.DataException
trap_by go.CreateFault = trap.CreateFault
trap_by go.Creates = trap.CreateFault
trap_by go.Quits = trap.CreateFault
trap_by go.Continues = trap.CreateFault
trap_by go.Waits = trap.CreateFault
trap_by go.WaitsForData = trap.CreateFault

-- a course that changes the queues or traps: it is settled, or no place says that the task traps
pub record Others (t pt : ℕ) (c : Course) (p : ℕ) (r : Option ℕ) (x y : Lines) : Type 0 where
  pub moved : Moved t pt c p x y
  pub settled : (place : ℕ) → r ≡ Some place → Settles t pt c p place x y
  pub traps : r ≡ None → ((result_by t c p x).ending ≡ Trapped (trap_by c) p) × (y.next ≡ x.next)
