-- The SFU queue, as instances that compute: each sentence of request L6 on an item of task 1.
use Rattle.std.specs.Prelude.{◌≡◌, refl, List, [], ◌∷◌, ◌++◌, ℕ, ◌-◌, get_or, length, replicate}
use Rattle.window.specs.declared.Row.{Row}
use Rattle.window.specs.Memories.{memory}
use Rattle.operation.specs.declared.Trap.TheVariants.{CreateFault, IllegalInstruction, ProtectionViolation}
use Rattle.operation.proofs.Exclusions.{instruction_word}
use Rattle.step.specs.declared.Queue.{Queue}
use Rattle.step.specs.declared.Ending.{Ending}
use Rattle.step.specs.declared.Ending.TheVariants.{Executed, Waved, Trapped, Idle}
use Rattle.step.specs.Queues.{places, list_of}
use Rattle.step.specs.State.{State, queue_in}
use Rattle.step.specs.Act.{table_of}
use Rattle.step.specs.Step.{no_trap, Item, item}
use Rattle.step.proofs.Laws.Opened.{opened}

-- a queue with these PTs from the start of its array
unfoldable pub queue_with : List ℕ → Queue
queue_with pts = record { pts = pts ++ replicate (places - length pts) 0; head = 0; len = length pts }

-- registers 0 and 1, program words 0 to 15, data words 0 to 31
unfoldable pub row_with : (kind psw : ℕ) → Row
row_with kind psw = record { task = 1; cb = 0; rb = 0; rl = 0; pb = 0; pl = 0; db = 0; dl = 0; kind = kind; psw = psw }

-- 0 and 6 load data word 0, waiting until it is full; 1 is NOP; 2 has an illegal code; 3 leaves; 4 creates; 5 waits for an empty register
unfoldable pub sfu_program : List ℕ
sfu_program =
    instruction_word 0x6C04 0 0x4000 0 ∷ 0 ∷ instruction_word 1 0 0 0 ∷ instruction_word 0x1970 0 0 0x4000 ∷ instruction_word 0x3970 0 0x4000 0x4000
    ∷ instruction_word 0x611F 0x1000 0x4000 0 ∷ instruction_word 0x6C04 0 0x4000 0 ∷ replicate 9 0

-- the process with PT n is at PC n, up to 7; that with PT 7 is past the program window
unfoldable pub sfu_psws : List ℕ
sfu_psws = 0 ∷ 1 ∷ 2 ∷ 3 ∷ 4 ∷ 5 ∷ 6 ∷ 16 ∷ replicate 56 0

-- task 1 with this row, these PTs in its queue and in its SFU queue, and n processes of task 2; the state of data word 0, and the flag
unfoldable pub sfu_state : Row → (own sfu : List ℕ) → (beside full flag : ℕ) → State
sfu_state row own sfu n full flag = record {
  rows = row ∷ [];
  table = table_of sfu_psws (replicate 2 (queue_with []) ++ (queue_with own ∷ queue_with sfu ∷ queue_with (replicate n 63) ∷ replicate 11 (queue_with []))) flag;
  constants = memory (0 ∷ []) (0 ∷ []);
  registers = memory (replicate 2 0) (replicate 2 0);
  program = sfu_program;
  data_words = memory (full ∷ replicate 31 1) (99 ∷ replicate 31 0);
}

-- an item of task 1: data word 0 empty, and full
unfoldable pub empty_item : (own sfu : List ℕ) → Item
empty_item own sfu = item 1 (sfu_state (row_with no_trap 0) own sfu 0 0 0)

unfoldable pub full_item : (own sfu : List ℕ) → Item
full_item own sfu = item 1 (sfu_state (row_with no_trap 0) own sfu 0 1 0)

-- the ending, the tries, the PTs in the two queues, and how many processes of task 1 are live
pub record Left (x : Item) (e : Ending) (n : ℕ) (own sfu : List ℕ) (processes : ℕ) : Type 0 where
  pub ending : x.ending ≡ e
  pub tries : x.tries ≡ n
  pub queue : list_of (queue_in x.state.table.users.queues 2) ≡ own
  pub waiting : list_of (queue_in x.state.table.users.queues 3) ≡ sfu
  pub live : get_or x.state.table.users.live 1 0 ≡ processes

pub record SfuTrials : Type 0 where
  -- a step whose data state is unmet moves the process there, not to the tail, and counts as waved; it is live
  pub moved : Left (empty_item (0 ∷ 1 ∷ []) []) Waved 0 (1 ∷ []) (0 ∷ []) 2
  -- behind those that are there
  pub behind : Left (empty_item (0 ∷ 1 ∷ []) (5 ∷ [])) Waved 1 (1 ∷ []) (5 ∷ 0 ∷ []) 3
  -- a step that waits for a register, or to create, goes to the tail as before
  pub access : Left (empty_item (5 ∷ 1 ∷ []) []) Waved 0 (1 ∷ 5 ∷ []) [] 2
  pub create_waits_lem : Left (item 1 (sfu_state (row_with no_trap 0) (4 ∷ 1 ∷ []) [] 0 0 1)) Waved 0 (1 ∷ 4 ∷ []) [] 2
  -- the try executes: to the tail of the task's queue; that was empty, so no step follows, and the item counts by the try
  pub loaded : Left (full_item [] (0 ∷ 5 ∷ [])) Executed 1 (0 ∷ []) (5 ∷ []) 2
  pub loaded_once : get_or (full_item [] (1 ∷ [])).state.table.users.psw 1 0 ≡ 2
  -- it leaves by a true QT
  pub quit : Left (empty_item [] (3 ∷ 0 ∷ [])) Executed 1 [] (0 ∷ []) 1
  -- a created one joins the task's queue, behind its creator
  pub created : Left (empty_item [] (4 ∷ 0 ∷ [])) Executed 1 (4 ∷ 1 ∷ []) (0 ∷ []) 3
  -- under trap 00 too: the creator stays head of the SFU queue, and the item ends
  pub fault : Left (item 1 (sfu_state (row_with no_trap 0) (1 ∷ []) (4 ∷ []) 61 0 0)) (Trapped CreateFault 5) 1 (1 ∷ 0 ∷ []) (4 ∷ []) 3
  pub fault_flag : (item 1 (sfu_state (row_with no_trap 0) (1 ∷ []) (4 ∷ []) 61 0 0)).state.table.users.flag ≡ 1
  pub fault_psw : get_or (item 1 (sfu_state (row_with no_trap 0) (1 ∷ []) (4 ∷ []) 61 0 0)).state.table.users.psw 4 0 ≡ 5
  -- it must wait for anything (a data word, a register, the flag): to the tail of the SFU queue
  pub waits_data : Left (empty_item [] (0 ∷ 5 ∷ [])) Waved 1 [] (5 ∷ 0 ∷ []) 2
  pub waits_access : Left (empty_item [] (5 ∷ 0 ∷ [])) Waved 1 [] (0 ∷ 5 ∷ []) 2
  pub waits_create : Left (item 1 (sfu_state (row_with no_trap 0) [] (4 ∷ 0 ∷ []) 0 0 1)) Waved 1 [] (0 ∷ 4 ∷ []) 2
  -- it traps: it stays head of the SFU queue, the item ends and counts as trapped
  pub trapped : Left (empty_item (1 ∷ []) (2 ∷ 0 ∷ [])) (Trapped IllegalInstruction 2) 1 (1 ∷ []) (2 ∷ 0 ∷ []) 3
  -- all checks are made anew
  pub anew : Left (empty_item [] (7 ∷ [])) (Trapped ProtectionViolation 16) 1 [] (7 ∷ []) 1
  -- then the task's head steps as before, and the item counts by its step
  pub executes_then : Left (full_item (1 ∷ []) (0 ∷ [])) Executed 1 (0 ∷ 1 ∷ []) [] 2
  pub creates_then : Left (empty_item (1 ∷ []) (4 ∷ 0 ∷ [])) Executed 1 (4 ∷ 2 ∷ 1 ∷ []) (0 ∷ []) 4
  pub waits_then : Left (empty_item (1 ∷ []) (0 ∷ [])) Executed 1 (1 ∷ []) (0 ∷ []) 2
  pub traps_then : Left (full_item (2 ∷ []) (0 ∷ [])) (Trapped IllegalInstruction 2) 1 (2 ∷ 0 ∷ []) [] 2
  -- two processes of the SFU queue are tried in turn
  pub turn : Left (item 1 (empty_item [] (0 ∷ 6 ∷ [])).state) Waved 1 [] (0 ∷ 6 ∷ []) 2
  -- a trapped task makes no try, nor one without processes
  pub stopped : Left (item 1 (sfu_state (row_with 0x12 2) (1 ∷ []) (0 ∷ []) 0 1 0)) Idle 0 (1 ∷ []) (0 ∷ []) 2
  pub empty : Left (full_item [] []) Idle 0 [] [] 0

pub sfu_trials : SfuTrials
unfolding opened instruction_word queue_with row_with sfu_program sfu_psws sfu_state empty_item full_item
sfu_trials = record {
  moved = record { ending = refl; tries = refl; queue = refl; waiting = refl; live = refl };
  behind = record { ending = refl; tries = refl; queue = refl; waiting = refl; live = refl };
  access = record { ending = refl; tries = refl; queue = refl; waiting = refl; live = refl };
  create_waits_lem = record { ending = refl; tries = refl; queue = refl; waiting = refl; live = refl };
  loaded = record { ending = refl; tries = refl; queue = refl; waiting = refl; live = refl };
  loaded_once = refl;
  quit = record { ending = refl; tries = refl; queue = refl; waiting = refl; live = refl };
  created = record { ending = refl; tries = refl; queue = refl; waiting = refl; live = refl };
  fault = record { ending = refl; tries = refl; queue = refl; waiting = refl; live = refl };
  fault_flag = refl;
  fault_psw = refl;
  waits_data = record { ending = refl; tries = refl; queue = refl; waiting = refl; live = refl };
  waits_access = record { ending = refl; tries = refl; queue = refl; waiting = refl; live = refl };
  waits_create = record { ending = refl; tries = refl; queue = refl; waiting = refl; live = refl };
  trapped = record { ending = refl; tries = refl; queue = refl; waiting = refl; live = refl };
  anew = record { ending = refl; tries = refl; queue = refl; waiting = refl; live = refl };
  executes_then = record { ending = refl; tries = refl; queue = refl; waiting = refl; live = refl };
  creates_then = record { ending = refl; tries = refl; queue = refl; waiting = refl; live = refl };
  waits_then = record { ending = refl; tries = refl; queue = refl; waiting = refl; live = refl };
  traps_then = record { ending = refl; tries = refl; queue = refl; waiting = refl; live = refl };
  turn = record { ending = refl; tries = refl; queue = refl; waiting = refl; live = refl };
  stopped = record { ending = refl; tries = refl; queue = refl; waiting = refl; live = refl };
  empty = record { ending = refl; tries = refl; queue = refl; waiting = refl; live = refl };
}
