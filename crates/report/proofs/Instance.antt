-- Demand 3 at work: task 1 beside two different neighbours, from image bytes on. Task 1 has a process in its queue and one in its SFU queue. The
-- first counts a register up, adds a constant, stores the sum and creates a third; the second waits for the sum and loads it, and then the other
-- two wait for a sum. In image A its neighbour is task 2, which fills its registers
-- and its first data word; in image B it is task 3, which creates a process, stores and loads a constant, leaves, and traps.
use Rattle.std.specs.Prelude.{◌≡◌, refl, List, [], ◌∷◌, ◌++◌, ℕ, ◌+◌, ◌-◌, ◌*◌, ◌^◌, length, replicate}
use Rattle.std.proofs.Common.{leb-true, Some}
use Rattle.window.specs.declared.Row.{Row}
use Rattle.window.specs.declared.Cell.{Cell}
use Rattle.window.specs.Memories.{cell, cell_at}
use Rattle.window.specs.Windows.{register_window}
use Rattle.operation.proofs.Exclusions.{instruction_word}
use Rattle.operation.specs.declared.Trap.TheVariants.{PrivilegedInstruction}
use Rattle.step.specs.State.{processes_of, waiting_of}
use Rattle.step.specs.Owned.{owner, own}
use Rattle.step.specs.Act.{trapped_row}
use Rattle.step.specs.Step.{no_trap}
use Rattle.run.specs.Run.{counts, own_counts, Ran, run}
use Rattle.run.specs.Compared.{Compared, cut}
use Rattle.run.proofs.Laws.AloneTest.{alone_of}
use Rattle.image.specs.declared.Process.{Process}
use Rattle.image.specs.Image.{Image, image_codec, state_of}
use Rattle.image.specs.Demand3.{WholeRun, Agreed}
use Rattle.image.proofs.Demand3.{demand_3, demand_3_counts}
use Rattle.report.specs.Report.{schedule_codec, most_input, output_of}
use Rattle.report.specs.Letters.{letters}
use Rattle.report.specs.Lines.{WholeInput, line_of, task_line}
use Rattle.report.proofs.Isolation.{SameLine, report_demand_3}
use Rattle.report.proofs.Laws.Opened.{opened}
use Rattle.report.proofs.Laws.Agreeing.{compared_at, program_at, bytes_of}

-- ---- the two images by their fields

-- a task with four registers, sixteen program words and 32 data words, those from 4 * place, 16 * place and 32 * place on
unfoldable pub instance_row : (task place : ℕ) → Row
instance_row task place = record {
  task = task;
  cb = 0;
  rb = place * 2;
  rl = place * 2 + 1;
  pb = place;
  pl = place;
  db = place;
  dl = place;
  kind = no_trap;
  psw = 0;
}

-- a process at PC 0, and one at PC 4 in the SFU queue
unfoldable pub process_of : (pt task : ℕ) → Process
process_of pt task = record { pt = pt; task = task; psw = 0 }

unfoldable pub waiter_of : (pt task : ℕ) → Process
waiter_of pt task = record { pt = pt; task = task + 0x10; psw = 4 }

-- sixteen program words each, the others of them NOPs; register 2 has the address of the first data word
unfoldable pub adding : List ℕ
adding =
    -- INC register 0
    instruction_word 0x6130 0 0 0 ∷
    -- ADD register 0 and constant 0, into register 1
    instruction_word 0x7126 1 0 0x4000 ∷
    -- STOI register 1, once the data word is empty
    instruction_word 0xBC02 0 2 1 ∷
    -- CREATE always
    instruction_word 0x3970 0 0x4000 0x4000 ∷
    -- LODI into register 3, once the data word is full, and set it empty
    instruction_word 0x6C08 3 2 0 ∷
    replicate 11 0

unfoldable pub filling : List ℕ
filling =
    -- ONE into register 0
    instruction_word 0x4113 0 0 0 ∷
    -- STOI register 0
    instruction_word 0xBC00 0 2 0 ∷
    -- LODI into register 1
    instruction_word 0x6C00 1 2 0 ∷
    replicate 13 0

unfoldable pub creating : List ℕ
creating =
    -- CREATE always, at the PC that constant 1 has
    instruction_word 0x3971 0 0x4001 0x4000 ∷
    -- STOI constant 0
    instruction_word 0xBC00 0 2 0x4000 ∷
    -- LODI into register 1
    instruction_word 0x6C00 1 2 0 ∷
    -- QT always
    instruction_word 0x1970 0 0 0x4000 ∷
    replicate 4 0
    -- a privileged code
    ++ (instruction_word 0x8701 0 0 0 ∷ replicate 7 0)

-- the constants of both images
unfoldable pub constants : List Cell
constants = cell 0 100 ∷ cell 0 5 ∷ []

unfoldable pub image_a : Image
image_a = record {
  rows = instance_row 1 0 ∷ instance_row 2 1 ∷ [];
  flag = 0;
  processes = process_of 5 1 ∷ waiter_of 7 1 ∷ process_of 0 2 ∷ process_of 1 2 ∷ [];
  constants = constants;
  registers = cell 0 41 ∷ cell 0 7 ∷ cell 0 0 ∷ cell 0 0 ∷ cell 0 1 ∷ cell 0 2 ∷ cell 0 0 ∷ cell 0 0 ∷ [];
  program = adding ++ filling;
  data_words = replicate 32 (cell 0 0) ++ replicate 32 (cell 1 3);
}

unfoldable pub image_b : Image
image_b = record {
  rows = instance_row 1 0 ∷ instance_row 3 1 ∷ [];
  flag = 0;
  processes = process_of 9 1 ∷ waiter_of 2 1 ∷ process_of 3 3 ∷ [];
  constants = constants;
  -- the neighbour's first register has quality 4, its second is empty
  registers = cell 0 41 ∷ cell 0 7 ∷ cell 0 0 ∷ cell 0 0 ∷ cell 4 300 ∷ cell 8 200 ∷ cell 0 0 ∷ cell 0 0 ∷ [];
  program = adding ++ creating;
  data_words = replicate 64 (cell 0 0);
}

unfoldable pub bytes_a : List ℕ
bytes_a = image_codec.enc image_a

unfoldable pub bytes_b : List ℕ
bytes_b = image_codec.enc image_b

-- seven items of task 1 in each
unfoldable pub schedule_a : List ℕ
schedule_a = 2 ∷ 1 ∷ 2 ∷ 1 ∷ 2 ∷ 2 ∷ 1 ∷ 1 ∷ 1 ∷ 2 ∷ 1 ∷ 2 ∷ 1 ∷ []

unfoldable pub schedule_b : List ℕ
schedule_b = 1 ∷ 3 ∷ 3 ∷ 1 ∷ 1 ∷ 3 ∷ 3 ∷ 3 ∷ 3 ∷ 1 ∷ 3 ∷ 1 ∷ 3 ∷ 3 ∷ 1 ∷ 1 ∷ []

-- naming this opens the two images
unfoldable pub images : ℕ
unfolding opened instance_row process_of waiter_of adding filling creating constants image_a image_b bytes_a bytes_b schedule_a schedule_b instruction_word
images = 0

-- ---- the two runs

run_a : WholeRun bytes_a schedule_a image_a
unfolding images
run_a = record { string = bytes_of bytes_a refl; accepted = refl; scheduled = refl; down = refl }

run_b : WholeRun bytes_b schedule_b image_b
unfolding images
run_b = record { string = bytes_of bytes_b refl; accepted = refl; scheduled = refl; down = refl }

agreed : Agreed 1 schedule_a schedule_b image_a image_b
unfolding images
agreed = record {
  task = compared_at 1 (state_of image_a) (state_of image_b) (instance_row 1 0) refl refl refl refl;
  program = program_at 1 (state_of image_a) (state_of image_b) (instance_row 1 0) refl refl;
  constants = λ a. refl;
  items = refl;
  alone = alone_of 1 (state_of image_a) refl;
  alone' = alone_of 1 (state_of image_b) refl;
}

-- the input of the batch program
unfoldable pub input_of : (schedule bytes : List ℕ) → List ℕ
input_of schedule bytes = schedule_codec.enc schedule ++ bytes

input_a : WholeInput (input_of schedule_a bytes_a) schedule_a bytes_a
unfolding images input_of
input_a = record { short = leb-true (length (input_of schedule_a bytes_a)) most_input refl; read = refl }

input_b : WholeInput (input_of schedule_b bytes_b) schedule_b bytes_b
unfolding images input_of
input_b = record { short = leb-true (length (input_of schedule_b bytes_b)) most_input refl; read = refl }

-- the two runs, and the states after them
unfoldable pub ran_a : Ran
ran_a = run schedule_a (state_of image_a)

unfoldable pub ran_b : Ran
ran_b = run schedule_b (state_of image_b)

pub record Instance : Type 0 where
  -- by demand 3
  pub equal : Compared 1 ran_a.state ran_b.state
  -- task 1 counted 41 up, added 100 and stored the sum; it was loaded by a try, and the data word set empty
  pub registers : cut (register_window (instance_row 1 0)) ran_a.state.registers.words ≡ 42 ∷ 142 ∷ 0 ∷ 142 ∷ []
  pub datum : cell_at ran_a.state.data_words 0 ≡ cell 0 142
  -- creator and created process wait at the LODI; the process that loaded the sum is two instructions further
  pub processes : processes_of ran_a.state.table.users 1 ≡ 6 ∷ []
  pub waiting : waiting_of ran_a.state.table.users 1 ≡ 4 ∷ 4 ∷ []
  pub counts_a : ran_a.notes.counts ≡ counts 11 2 0 0 5
  -- its own counts are those of its seven items, after both runs
  pub own_counts_lem : own_counts 1 ran_a.notes ≡ counts 5 2 0 0 5
  pub own_equal : own_counts 1 ran_a.notes ≡ own_counts 1 ran_b.notes
  -- task 2 filled two registers and its first data word
  pub registers_a : cut (register_window (instance_row 2 1)) ran_a.state.registers.words ≡ (2 ^ 64 - 1) ∷ (2 ^ 64 - 1) ∷ 0 ∷ 0 ∷ []
  pub datum_a : cell_at ran_a.state.data_words 32 ≡ cell 1 (2 ^ 64 - 1)
  -- task 3 stored and loaded 100; one of its processes left, the other trapped with kind 16 at PC 8, and its last item was idle
  pub registers_b : cut (register_window (instance_row 3 1)) ran_b.state.registers.words ≡ 300 ∷ 100 ∷ 0 ∷ 0 ∷ []
  pub datum_b : cell_at ran_b.state.data_words 32 ≡ cell 1 100
  pub trap_b : own 3 ran_b.state ≡ Some (owner (trapped_row (instance_row 3 1) PrivilegedInstruction 8) (8 ∷ []) [])
  pub counts_b : ran_b.notes.counts ≡ counts 12 2 1 1 5
  -- by demand 3 of the report; the line of task 1
  pub reported : SameLine 1 ran_a ran_b (output_of (input_of schedule_a bytes_a)) (output_of (input_of schedule_b bytes_b))
  pub line : task_line 1 ran_a ≡ Some (letters "1 3 -- ----- E5 W2 T0 I0 S5\n")

pub isolated : Instance
unfolding images ran_a ran_b line_of task_line letters
isolated = record {
  equal = demand_3 1 bytes_a bytes_b schedule_a schedule_b image_a image_b run_a run_b agreed;
  registers = refl;
  datum = refl;
  processes = refl;
  waiting = refl;
  counts_a = refl;
  own_counts_lem = refl;
  own_equal = demand_3_counts 1 bytes_a bytes_b schedule_a schedule_b image_a image_b run_a run_b agreed;
  registers_a = refl;
  datum_a = refl;
  registers_b = refl;
  datum_b = refl;
  trap_b = refl;
  counts_b = refl;
  reported = report_demand_3 1 (input_of schedule_a bytes_a) (input_of schedule_b bytes_b) bytes_a bytes_b schedule_a schedule_b image_a image_b input_a input_b run_a run_b agreed;
  line = refl;
}
