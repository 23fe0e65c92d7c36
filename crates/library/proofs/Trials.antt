-- The refusals of the library's calls at both sides of their boundaries.
use Rattle.std.proofs.Common.{Ok, Err}
use Rattle.std.specs.Prelude.{◌≡◌, refl, List, [], ◌∷◌, ◌++◌, ℕ, ◌-◌, length, get_or, take, drop, replicate}
use Rattle.refusal.specs.declared.Refusal.TheVariants.{ItemOutOfRange}
use Rattle.window.specs.Memories.{cell}
use Rattle.step.specs.declared.ProcessTable.{ProcessTable}
use Rattle.step.specs.Act.{table_of}
use Rattle.step.specs.Step.{no_trap}
use Rattle.step.specs.declared.Ending.TheVariants.{Executed, Idle}
use Rattle.step.specs.declared.Queue.{Queue}
use Rattle.run.specs.Run.{counts, no_counts}
use Rattle.image.specs.Image.{Image, image_codec, queue_of, state_of}
use Rattle.library.specs.Numbers.{numbered}
use Rattle.library.specs.declared.Sizes.{Sizes}
use Rattle.library.specs.Buffers.{Buffers, Room, spare_in, holding}
use Rattle.library.specs.Calls.{answers, read_refusal, read_answer, read_leaves, run_refusal, run_answer, run_leaves, step_refusal, step_answer, step_leaves, write_refusal, write_answer, write_leaves}
use Rattle.library.specs.Promises.{run_answered}
use Rattle.library.proofs.Laws.Opened.{opened}

-- ---- an image of one task, and buffers for it

unfoldable pub trial_image : Image
trial_image = record {
  rows = record { task = 2; cb = 0; rb = 0; rl = 0; pb = 0; pl = 0; db = 1; dl = 0; kind = no_trap; psw = 0 } ∷ [];
  flag = 0;
  processes = record { pt = 4; task = 2; psw = 0 } ∷ [];
  constants = cell 3 5 ∷ [];
  registers = cell 0 6 ∷ cell 8 7 ∷ [];
  program = replicate 16 0;
  data_words = cell 1 8 ∷ [];
}

unfoldable pub trial_bytes : List ℕ
trial_bytes = image_codec.enc trial_image

-- its counts
unfoldable pub trial_sizes : Sizes
trial_sizes = record { rows = 1; constants = 1; registers = 2; program = 16; data_words = 1 }

-- buffers that are just long enough, less so many places each
unfoldable pub room_less : (rows constant_tags constant_words register_tags register_words program data_tags data_words : ℕ) → Room
room_less r q c t w p d v = record {
  rows = 1 - r;
  constant_tags = 1 - q;
  constant_words = 1 - c;
  register_tags = 2 - t;
  register_words = 2 - w;
  program = 16 - p;
  data_tags = 1 - d;
  data_words = 1 - v;
}

-- buffers that are a place longer, with 9 in every place
unfoldable pub longer : Buffers
longer = record {
  rows = replicate 2 (record { task = 9; cb = 9; rb = 9; rl = 9; pb = 9; pl = 9; db = 9; dl = 9; kind = 9; psw = 9 });
  table = (state_of trial_image).table;
  constant_tags = replicate 2 9;
  constant_words = replicate 2 9;
  register_tags = replicate 3 9;
  register_words = replicate 3 9;
  program = replicate 17 9;
  data_tags = replicate 2 9;
  data_words = replicate 2 9;
}

unfoldable pub no_buffers : Buffers
no_buffers = record {
  rows = [];
  table = (state_of trial_image).table;
  constant_tags = [];
  constant_words = [];
  register_tags = [];
  register_words = [];
  program = [];
  data_tags = [];
  data_words = [];
}

-- the trial state in buffers of these lengths, none longer than its fields
unfoldable pub buffers_of : Room → Buffers
buffers_of room =
    let b : Buffers = holding (state_of trial_image) no_buffers in
    record {
      rows = take room.rows b.rows;
      table = b.table;
      constant_tags = take room.constant_tags b.constant_tags;
      constant_words = take room.constant_words b.constant_words;
      register_tags = take room.register_tags b.register_tags;
      register_words = take room.register_words b.register_words;
      program = take room.program b.program;
      data_tags = take room.data_tags b.data_tags;
      data_words = take room.data_words b.data_words;
    }

abbrev pub exact : Room
exact = room_less 0 0 0 0 0 0 0 0

-- the buffers with this process table and these qualities
unfoldable pub with_parts : ProcessTable → (qualities : List ℕ) → Buffers
with_parts table qualities =
    let b : Buffers = buffers_of exact in
    record {
      rows = b.rows;
      table = table;
      constant_tags = qualities;
      constant_words = b.constant_words;
      register_tags = b.register_tags;
      register_words = b.register_words;
      program = b.program;
      data_tags = b.data_tags;
      data_words = b.data_words;
    }

-- with another process table; with another quality of the constant
unfoldable pub with_table : ProcessTable → Buffers
with_table table = with_parts table (3 ∷ [])

unfoldable pub with_quality : ℕ → Buffers
with_quality q = with_parts (state_of trial_image).table (q ∷ [])

-- all queues empty but the one with number k
unfoldable pub one_queue : (k : ℕ) → Queue → List Queue
one_queue k q = replicate k (queue_of []) ++ (q ∷ replicate (15 - k) (queue_of []))

-- tables that no image gives: a PT twice; a process of a task that has no row
unfoldable pub pt_twice : ProcessTable
pt_twice = table_of (replicate 64 0) (one_queue 4 (queue_of (4 ∷ 4 ∷ []))) 0

unfoldable pub unlisted : ProcessTable
unlisted = table_of (replicate 64 0) (one_queue 2 (queue_of (4 ∷ []))) 0

-- a PT in both queues of a task; a process in the SFU queue of a task that has no row, and of one that has
unfoldable pub pt_in_both : ProcessTable
pt_in_both = table_of (replicate 64 0) (replicate 4 (queue_of []) ++ (queue_of (4 ∷ []) ∷ queue_of (4 ∷ []) ∷ replicate 10 (queue_of []))) 0

unfoldable pub stray_waiter : ProcessTable
stray_waiter = table_of (replicate 64 0) (one_queue 3 (queue_of (4 ∷ []))) 0

unfoldable pub waiter : ProcessTable
waiter = table_of (replicate 64 0) (one_queue 5 (queue_of (4 ∷ []))) 0

-- task 2 has its process, and these live counts are stored
unfoldable pub with_live : (live : List ℕ) → (processes : ℕ) → Buffers
with_live live n = with_table (record { users = record { psw = replicate 64 0; queues = one_queue 4 (queue_of (4 ∷ [])); flag = 0; live = live; count = n } })

-- ---- the trials

pub record ReadTrials : Type 0 where
  -- just enough room, and one place short of it in each buffer: 7
  pub enough : numbered (read_refusal exact trial_bytes) ≡ 0
  pub rows : numbered (read_refusal (room_less 1 0 0 0 0 0 0 0) trial_bytes) ≡ 7
  pub constant_tags : numbered (read_refusal (room_less 0 1 0 0 0 0 0 0) trial_bytes) ≡ 7
  pub constant_words : numbered (read_refusal (room_less 0 0 1 0 0 0 0 0) trial_bytes) ≡ 7
  pub register_tags : numbered (read_refusal (room_less 0 0 0 1 0 0 0 0) trial_bytes) ≡ 7
  pub register_words : numbered (read_refusal (room_less 0 0 0 0 1 0 0 0) trial_bytes) ≡ 7
  pub program : numbered (read_refusal (room_less 0 0 0 0 0 1 0 0) trial_bytes) ≡ 7
  pub data_tags : numbered (read_refusal (room_less 0 0 0 0 0 0 1 0) trial_bytes) ≡ 7
  pub data_words : numbered (read_refusal (room_less 0 0 0 0 0 0 0 1) trial_bytes) ≡ 7
  -- 1 comes before 7
  pub first : numbered (read_refusal (room_less 1 1 1 1 1 1 1 1) (take 40 trial_bytes)) ≡ 1
  -- the answer is the counts; buffers of no room are left as they are
  pub answer : read_answer exact trial_bytes ≡ answers trial_sizes
  pub left : read_leaves no_buffers trial_bytes ≡ no_buffers
  -- what lies beyond the sizes stays
  pub spare : spare_in trial_sizes (read_leaves longer trial_bytes) ≡ record {
    rows = record { task = 9; cb = 9; rb = 9; rl = 9; pb = 9; pl = 9; db = 9; dl = 9; kind = 9; psw = 9 } ∷ [];
    constant_tags = 9 ∷ [];
    constant_words = 9 ∷ [];
    register_tags = 9 ∷ [];
    register_words = 9 ∷ [];
    program = 9 ∷ [];
    data_tags = 9 ∷ [];
    data_words = 9 ∷ [];
  }

pub record RunTrials : Type 0 where
  -- a buffer as long as its count, and one place shorter: 8
  pub enough : numbered (run_refusal trial_sizes (buffers_of exact) (2 ∷ [])) ≡ 0
  pub rows : numbered (run_refusal trial_sizes (buffers_of (room_less 1 0 0 0 0 0 0 0)) (2 ∷ [])) ≡ 8
  pub constant_tags : numbered (run_refusal trial_sizes (buffers_of (room_less 0 1 0 0 0 0 0 0)) (2 ∷ [])) ≡ 8
  pub constant_words : numbered (run_refusal trial_sizes (buffers_of (room_less 0 0 1 0 0 0 0 0)) (2 ∷ [])) ≡ 8
  pub register_tags : numbered (run_refusal trial_sizes (buffers_of (room_less 0 0 0 1 0 0 0 0)) (2 ∷ [])) ≡ 8
  pub register_words : numbered (run_refusal trial_sizes (buffers_of (room_less 0 0 0 0 1 0 0 0)) (2 ∷ [])) ≡ 8
  pub program : numbered (run_refusal trial_sizes (buffers_of (room_less 0 0 0 0 0 1 0 0)) (2 ∷ [])) ≡ 8
  pub data_tags : numbered (run_refusal trial_sizes (buffers_of (room_less 0 0 0 0 0 0 1 0)) (2 ∷ [])) ≡ 8
  pub data_words : numbered (run_refusal trial_sizes (buffers_of (room_less 0 0 0 0 0 0 0 1)) (2 ∷ [])) ≡ 8
  -- a state that no image reads as: 8, before 10
  pub twice : numbered (run_refusal trial_sizes (with_table pt_twice) (0 ∷ [])) ≡ 8
  pub quality : numbered (run_refusal trial_sizes (with_quality 7) (0 ∷ [])) ≡ 8
  pub stray : numbered (run_refusal trial_sizes (with_table unlisted) (2 ∷ [])) ≡ 8
  pub in_both : numbered (run_refusal trial_sizes (with_table pt_in_both) (2 ∷ [])) ≡ 8
  pub stray_waits : numbered (run_refusal trial_sizes (with_table stray_waiter) (2 ∷ [])) ≡ 8
  pub waits : numbered (run_refusal trial_sizes (with_table waiter) (2 ∷ [])) ≡ 0
  -- the live counts that its queues have; one more and one less of task 2 and in all, and one of a task without processes: 8
  pub counted : numbered (run_refusal trial_sizes (with_live (0 ∷ 0 ∷ 1 ∷ replicate 5 0) 1) (2 ∷ [])) ≡ 0
  pub count_up : numbered (run_refusal trial_sizes (with_live (0 ∷ 0 ∷ 2 ∷ replicate 5 0) 1) (2 ∷ [])) ≡ 8
  pub count_down : numbered (run_refusal trial_sizes (with_live (replicate 8 0) 1) (2 ∷ [])) ≡ 8
  pub count_aside : numbered (run_refusal trial_sizes (with_live (0 ∷ 1 ∷ 0 ∷ replicate 5 0) 1) (2 ∷ [])) ≡ 8
  pub total_up : numbered (run_refusal trial_sizes (with_live (0 ∷ 0 ∷ 1 ∷ replicate 5 0) 2) (2 ∷ [])) ≡ 8
  pub total_down : numbered (run_refusal trial_sizes (with_live (0 ∷ 0 ∷ 1 ∷ replicate 5 0) 0) (2 ∷ [])) ≡ 8
  -- a state that is one, and a list that is refused: 9, 10
  pub long : numbered (run_refusal trial_sizes (buffers_of exact) (replicate 65536 2)) ≡ 9
  pub item : numbered (run_refusal trial_sizes (buffers_of exact) (2 ∷ 0 ∷ [])) ≡ 10
  -- refused: nothing is touched
  pub left : run_leaves trial_sizes (buffers_of exact) (2 ∷ 0 ∷ []) ≡ buffers_of exact
  -- and no task has counts
  pub refused : run_answered (run_answer trial_sizes (buffers_of exact) (2 ∷ 0 ∷ []))
      ≡ record { answer = Err ItemOutOfRange; own = replicate 8 no_counts }
  -- the NOP of task 2, and an item of task 3, which has no row: each under its task's number
  pub ran : run_answered (run_answer trial_sizes (buffers_of exact) (2 ∷ 3 ∷ []))
      ≡ record { answer = Ok (counts 1 0 0 1 0); own = no_counts ∷ no_counts ∷ counts 1 0 0 0 0 ∷ counts 0 0 0 1 0 ∷ replicate 4 no_counts }

pub record StepTrials : Type 0 where
  -- a state that no image reads as: 8, before 10; a state that is one, and a task that isn't: 10
  pub first : numbered (step_refusal trial_sizes (with_table pt_twice) 0) ≡ 8
  pub counted : numbered (step_refusal trial_sizes (with_live (0 ∷ 0 ∷ 2 ∷ replicate 5 0) 1) 2) ≡ 8
  pub low : numbered (step_refusal trial_sizes (buffers_of exact) 0) ≡ 10
  pub high : numbered (step_refusal trial_sizes (buffers_of exact) 8) ≡ 10
  -- refused: nothing is touched
  pub left : step_leaves trial_sizes (buffers_of exact) 8 ≡ buffers_of exact
  -- the task's NOP: executed, and its process goes on at PC 1
  pub executed : step_answer trial_sizes (buffers_of exact) 2 ≡ answers Executed
  pub next : get_or (step_leaves trial_sizes (buffers_of exact) 2).table.users.psw 4 0 ≡ 1
  -- an unlisted task: idle, and nothing is touched
  pub idle : step_answer trial_sizes (buffers_of exact) 3 ≡ answers Idle
  pub still : step_leaves trial_sizes (buffers_of exact) 3 ≡ buffers_of exact

pub record WriteTrials : Type 0 where
  -- a buffer as long as the image, and one byte shorter: 7
  pub enough : numbered (write_refusal trial_sizes (buffers_of exact) (length trial_bytes)) ≡ 0
  pub short : numbered (write_refusal trial_sizes (buffers_of exact) (length trial_bytes - 1)) ≡ 7
  -- 8 comes before 7
  pub first : numbered (write_refusal trial_sizes (with_table pt_twice) 0) ≡ 8
  -- live counts as its queues have them; one more and one less of task 2 and in all: 8
  pub counted : numbered (write_refusal trial_sizes (with_live (0 ∷ 0 ∷ 1 ∷ replicate 5 0) 1) 1000) ≡ 0
  pub count_up : numbered (write_refusal trial_sizes (with_live (0 ∷ 0 ∷ 2 ∷ replicate 5 0) 1) 1000) ≡ 8
  pub count_down : numbered (write_refusal trial_sizes (with_live (replicate 8 0) 1) 1000) ≡ 8
  pub total_up : numbered (write_refusal trial_sizes (with_live (0 ∷ 0 ∷ 1 ∷ replicate 5 0) 2) 1000) ≡ 8
  pub total_down : numbered (write_refusal trial_sizes (with_live (0 ∷ 0 ∷ 1 ∷ replicate 5 0) 0) 1000) ≡ 8
  -- the answer is the length; the bytes are those that were read, and beyond them nothing is touched
  pub answer : write_answer trial_sizes (buffers_of exact) 1000 ≡ answers (length trial_bytes)
  pub bytes : write_leaves trial_sizes (buffers_of exact) (replicate 300 9) ≡ trial_bytes ++ drop (length trial_bytes) (replicate 300 9)
  pub left : write_leaves trial_sizes (buffers_of exact) (9 ∷ []) ≡ 9 ∷ []

-- naming this opens what the trials use
unfoldable pub trialled : ℕ
unfolding opened spare_in numbered trial_image trial_bytes trial_sizes room_less longer no_buffers buffers_of with_parts with_table with_quality one_queue pt_twice unlisted pt_in_both stray_waiter waiter with_live
trialled = 0

pub read_trials : ReadTrials
unfolding trialled
read_trials = record {
  enough = refl;
  rows = refl;
  constant_tags = refl;
  constant_words = refl;
  register_tags = refl;
  register_words = refl;
  program = refl;
  data_tags = refl;
  data_words = refl;
  first = refl;
  answer = refl;
  left = refl;
  spare = refl;
}

pub run_trials : RunTrials
unfolding trialled run_answered
run_trials = record {
  enough = refl;
  rows = refl;
  constant_tags = refl;
  constant_words = refl;
  register_tags = refl;
  register_words = refl;
  program = refl;
  data_tags = refl;
  data_words = refl;
  twice = refl;
  quality = refl;
  stray = refl;
  in_both = refl;
  stray_waits = refl;
  waits = refl;
  counted = refl;
  count_up = refl;
  count_down = refl;
  count_aside = refl;
  total_up = refl;
  total_down = refl;
  long = refl;
  item = refl;
  left = refl;
  refused = refl;
  ran = refl;
}

pub step_trials : StepTrials
unfolding trialled
step_trials = record {
  first = refl;
  counted = refl;
  low = refl;
  high = refl;
  left = refl;
  executed = refl;
  next = refl;
  idle = refl;
  still = refl;
}

pub write_trials : WriteTrials
unfolding trialled
write_trials = record {
  enough = refl;
  short = refl;
  first = refl;
  counted = refl;
  count_up = refl;
  count_down = refl;
  total_up = refl;
  total_down = refl;
  answer = refl;
  bytes = refl;
  left = refl;
}
