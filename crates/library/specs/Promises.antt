-- What each call promises: its answer as an enum, document 01's number of it, and every lent cell.
use Rattle.std.specs.Prelude.{ℕ, ◌≡◌, List, length, Result, Ok, Err}
use Rattle.refusal.specs.declared.Refusal.{Refusal}
use Rattle.refusal.specs.Numbers.{number_of}
use Rattle.step.specs.declared.Ending.{Ending}
use Rattle.run.specs.declared.Counts.{Counts}
use Rattle.run.specs.Run.{Tally, no_tally}
use Rattle.library.specs.declared.RunResult.{RunResult}
use Rattle.library.specs.declared.Sizes.{Sizes}
use Rattle.library.specs.Buffers.{Buffers, room_of}
use Rattle.library.specs.Calls.{Answer, refuses, answers, read_answer, read_leaves, run_answer, run_leaves, step_answer, step_leaves, write_answer, write_leaves}
use Rattle.library.specs.Numbers.{number_answered}

-- checking and reading answer their refusal, or the sizes of the state
unfoldable pub read_answered : Answer Sizes → Result Sizes Refusal
read_answered (refuses e) = Err e
read_answered (answers n) = Ok n

-- document 01's number of each case
unfoldable pub read_number : Result Sizes Refusal → ℕ
read_number (Err e) = number_of e
read_number (Ok n) = 0

pub record ReadPromise (before : Buffers) (bytes : List ℕ) (r : Result Sizes Refusal) (after : Buffers) : Type 0 where
  pub answer : r ≡ read_answered (read_answer (room_of before) bytes)
  pub number : read_number r ≡ number_answered (read_answer (room_of before) bytes)
  pub leaves : after ≡ read_leaves before bytes

-- a run answers its refusal, and no counts, or the counts of the endings, in all and of each task number
unfoldable pub run_answered : Answer Tally → RunResult
run_answered (refuses e) = record { answer = Err e; own = no_tally.own }
run_answered (answers n) = record { answer = Ok n.counts; own = n.own }

unfoldable pub run_number : Result Counts Refusal → ℕ
run_number (Err e) = number_of e
run_number (Ok c) = 0

pub record RunPromise (n : Sizes) (before : Buffers) (schedule : List ℕ) (r : RunResult) (after : Buffers) : Type 0 where
  pub answer : r ≡ run_answered (run_answer n before schedule)
  pub number : run_number r.answer ≡ number_answered (run_answer n before schedule)
  pub leaves : after ≡ run_leaves n before schedule

-- a step answers its refusal, or how it ends
unfoldable pub step_answered : Answer Ending → Result Ending Refusal
step_answered (refuses e) = Err e
step_answered (answers e) = Ok e

unfoldable pub step_number : Result Ending Refusal → ℕ
step_number (Err e) = number_of e
step_number (Ok e) = 0

pub record StepPromise (n : Sizes) (before : Buffers) (t : ℕ) (r : Result Ending Refusal) (after : Buffers) : Type 0 where
  pub answer : r ≡ step_answered (step_answer n before t)
  pub number : step_number r ≡ number_answered (step_answer n before t)
  pub leaves : after ≡ step_leaves n before t

-- writing answers its refusal, or the length of the image
unfoldable pub write_answered : Answer ℕ → Result ℕ Refusal
write_answered (refuses e) = Err e
write_answered (answers k) = Ok k

unfoldable pub write_number : Result ℕ Refusal → ℕ
write_number (Err e) = number_of e
write_number (Ok k) = 0

pub record WritePromise (n : Sizes) (state : Buffers) (r : Result ℕ Refusal) (before after : List ℕ) : Type 0 where
  pub answer : r ≡ write_answered (write_answer n state (length before))
  pub number : write_number r ≡ number_answered (write_answer n state (length before))
  pub leaves : after ≡ write_leaves n state before
