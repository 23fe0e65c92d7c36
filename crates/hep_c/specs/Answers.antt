-- What the calls for C and Rust answer, and what they leave in the lent slices. A call answers the number of its refusal, 0 where there is
-- none; on a refusal every lent number stays.
use Rattle.std.specs.Prelude.{ℕ, ◌+◌, ◌*◌, ◌≡◌, Bool, cond, ◌&&◌, List, [], ◌∷◌, ◌++◌, Result, Ok, Err, leb, ltb, length, drop, Option, None, Some}
use Rattle.refusal.specs.declared.Refusal.{Refusal}
use Rattle.refusal.specs.declared.Refusal.TheVariants.{ShortBuffer}
use Rattle.filling.specs.declared.Filling.{Filling}
use Rattle.run.specs.declared.Counts.{Counts}
use Rattle.run.specs.Schedule.{schedule_refusal}
use Rattle.run.specs.Run.{Tally, Ran, no_counts, run}
use Rattle.image.specs.Image.{state_of, Decoded, bad, good, decode, encode, process_length}
use Rattle.image.specs.Fields.{over}
use Rattle.library.specs.declared.Sizes.{Sizes}
use Rattle.library.specs.Buffers.{Room, fits, sizes_of}
use Rattle.library.specs.Calls.{Answer, refuses, answers, unless, or_else}
unfoldable pub use Rattle.library.specs.Numbers.{number_answered}
use Rattle.library.specs.Held.{room_from}
use Rattle.report.specs.Report.{report_of}
use Rattle.report_text.specs.Texts.{report_room}
use Rattle.step.specs.Queues.{pt_count}
use Rattle.window.specs.Limits.{tasks}

-- hep_check answers the number of check_answer (library Calls)

-- ---- numbers that go to the front of a slice: 7 where it is too short

unfoldable pub listed_answer : (slots : ℕ) → List ℕ → Answer (List ℕ)
listed_answer slots numbers = unless (cond (ltb slots (length numbers)) (Some ShortBuffer) None) numbers

unfoldable pub listed_left : Answer (List ℕ) → (slice : List ℕ) → List ℕ
listed_left (refuses e) slice = slice
listed_left (answers numbers) slice = over numbers slice

-- ---- hep_sizes: the image's refusals, then 7

-- five numbers: rows, constants, registers, program, data words
unfoldable pub sizes_listed : Sizes → List ℕ
sizes_listed n = n.rows ∷ n.constants ∷ n.registers ∷ n.program ∷ n.data_words ∷ []

unfoldable pub sizes_answer : (slots : ℕ) → Decoded → Answer (List ℕ)
sizes_answer slots (bad e) = refuses e
sizes_answer slots (good i) = listed_answer slots (sizes_listed (sizes_of (state_of i)))

-- ---- hep_fill: 17, then 18, then 7

-- four numbers: the choice, its sum, the tries made, the ceiling
unfoldable pub filling_listed : Filling → List ℕ
filling_listed f = f.choice ∷ f.sum ∷ f.tries ∷ f.ceiling ∷ []

unfoldable pub filling_answer : (slots : ℕ) → Result Filling Refusal → Answer (List ℕ)
filling_answer slots (Err e) = refuses e
filling_answer slots (Ok f) = listed_answer slots (filling_listed f)

-- ---- hep_run: the image's refusals, then 7, then 9 and 10

-- the slices that are lent: the memories of the state, and what the results go to
pub record Slices : Type 0 where
  pub constant_tags : List ℕ
  pub constant_words : List ℕ
  pub register_tags : List ℕ
  pub register_words : List ℕ
  pub program : List ℕ
  pub data_tags : List ℕ
  pub data_words : List ℕ
  pub output : List ℕ
  pub counts : List ℕ
  pub report : List ℕ

abbrev pub slices : (constant_tags constant_words register_tags register_words program data_tags data_words output counts report : List ℕ) → Slices
slices constant_tags constant_words register_tags register_words program data_tags data_words output counts report = record {
  constant_tags = constant_tags;
  constant_words = constant_words;
  register_tags = register_tags;
  register_words = register_words;
  program = program;
  data_tags = data_tags;
  data_words = data_words;
  output = output;
  counts = counts;
  report = report;
}

-- how much longer an image may get: 64 processes of 10 bytes
abbrev pub growth : ℕ
growth = pt_count * process_length

-- how many counts a run has, and each task: executed, waved, trapped, idle, tries
abbrev pub count_kinds : ℕ
count_kinds = 5

-- how many numbers of a run stand before those of its tasks: its counts, and the lengths of the image and of the report
abbrev pub run_numbers : ℕ
run_numbers = count_kinds + 2

-- how many numbers hep_run counts
abbrev pub count_numbers : ℕ
count_numbers = run_numbers + tasks * count_kinds

-- the output has room for the image and its growth, the counts for their numbers, the report for any report
unfoldable pub results_fit : (image output counts report : ℕ) → Bool
results_fit image output counts report = leb (image + growth) output && (leb count_numbers counts && leb report_room report)

-- 7: a memory is too short for the state, or a slice for its result; then 9 and 10. The call has places for seven rows itself
unfoldable pub lengths_refusal : (schedule : List ℕ) → Sizes → Room → (image output counts report : ℕ) → Option Refusal
lengths_refusal schedule n memories image output counts report =
    or_else (cond (fits n memories && results_fit image output counts report) None (Some ShortBuffer)) (schedule_refusal schedule)

-- what a check answers: its refusal, if any
unfoldable pub unless_refused : Option Refusal → Result Unit Refusal
unless_refused None = Ok tt
unless_refused (Some e) = Err e

unfoldable pub image_run_refusal : (image schedule : List ℕ) → Sizes → Slices → Option Refusal
image_run_refusal image schedule n l =
    lengths_refusal schedule n (room_from tasks (length l.constant_tags) (length l.constant_words) (length l.register_tags) (length l.register_words) (length l.program) (length l.data_tags) (length l.data_words))
    (length image) (length l.output) (length l.counts) (length l.report)

unfoldable pub image_run_answer : (image schedule : List ℕ) → Slices → Decoded → Answer Ran
image_run_answer image schedule l (bad e) = refuses e
image_run_answer image schedule l (good i) = unless (image_run_refusal image schedule (sizes_of (state_of i)) l) (run schedule (state_of i))

-- the counts of a run, or of a task, in their order
unfoldable pub kinds_listed : Counts → List ℕ
kinds_listed c = c.executed ∷ c.waved ∷ c.trapped ∷ c.idle ∷ c.tries ∷ []

-- those of tasks one after another
unfoldable pub own_listed : List Counts → List ℕ
own_listed [] = []
own_listed (c ∷ cs) = kinds_listed c ++ own_listed cs

-- the numbers in their order: the run's counts, the lengths of the image and of the report, each task's own counts from task 1 on
unfoldable pub counts_listed : Tally → (image report : ℕ) → List ℕ
counts_listed n image report = kinds_listed n.counts ++ (image ∷ report ∷ []) ++ own_listed (drop 1 n.own)

-- the state after the run in the memories, its image in the output, the counts, the report
unfoldable pub image_run_left : Answer Ran → Slices → Slices
image_run_left (refuses e) l = l
image_run_left (answers r) l = record {
  constant_tags = over r.state.constants.tags l.constant_tags;
  constant_words = over r.state.constants.words l.constant_words;
  register_tags = over r.state.registers.tags l.register_tags;
  register_words = over r.state.registers.words l.register_words;
  program = over r.state.program l.program;
  data_tags = over r.state.data_words.tags l.data_tags;
  data_words = over r.state.data_words.words l.data_words;
  output = over (encode r.state) l.output;
  counts = over (counts_listed r.notes (length (encode r.state)) (length (report_of r))) l.counts;
  report = over (report_of r) l.report;
}

-- the promise of hep_run: its answer, and every lent number
pub record ImageRunPromise (image schedule : List ℕ) (before : Slices) (r : ℕ) (after : Slices) : Type 0 where
  pub answer : r ≡ number_answered (image_run_answer image schedule before (decode image))
  pub leaves : after ≡ image_run_left (image_run_answer image schedule before (decode image)) before

-- ---- what the calls below it answered

-- no counts where a run was refused
unfoldable pub counts_answered : Result Counts Refusal → Counts
counts_answered (Err e) = no_counts
counts_answered (Ok c) = c
