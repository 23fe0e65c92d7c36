-- A waved step, as instances that compute: it changes only the queues, head to tail or from the queue to the SFU queue. S1 is read under access code 2 in each, so that a step that
-- sets it empty all the same is told.
use Rattle.std.specs.Prelude.{◌≡◌, refl, List, [], ◌∷◌, ◌++◌, ℕ, replicate}
use Rattle.window.specs.Memories.{memory}
use Rattle.operation.proofs.Exclusions.{exclusion_row, instruction_word}
use Rattle.step.specs.declared.Queue.{Queue}
use Rattle.step.specs.declared.Ending.TheVariants.{Waved}
use Rattle.step.specs.Queues.{list_of}
use Rattle.step.specs.State.{State, task_queue, acting_queue}
use Rattle.step.specs.declared.Attempt.TheVariants.{Try}
use Rattle.step.specs.Act.{table_of}
use Rattle.step.specs.Step.{item}
use Rattle.step.proofs.Laws.Opened.{opened}

-- the queue of task 1 with these PTs from the start of its array
unfoldable pub trial_queue : List ℕ → ℕ → Queue
trial_queue pts n = record { pts = pts ++ replicate 62 0; head = 0; len = n }

unfoldable pub no_trial_queue : Queue
no_trial_queue = trial_queue (0 ∷ 0 ∷ []) 0

-- task 1 with the processes 3 and 5 at PC 0, registers 6 and 7, data words 32 to 63, all of them empty; register 7 has the word hex F8. Task 2 has
-- n processes
unfoldable pub beside_state : (n flag : ℕ) → (program : List ℕ) → State
beside_state n flag program = record {
  rows = exclusion_row ∷ [];
  table = table_of (replicate 64 0) (replicate 2 no_trial_queue ++ (trial_queue (3 ∷ 5 ∷ []) 2 ∷ no_trial_queue ∷ trial_queue (0 ∷ 0 ∷ []) n ∷ replicate 11 no_trial_queue)) flag;
  constants = memory [] [];
  registers = memory (replicate 8 0) (replicate 7 0 ++ (0xF8 ∷ []));
  program = program ++ replicate 14 0;
  data_words = memory (replicate 64 0) (replicate 64 9);
}

-- task 1 alone
unfoldable pub trial_state : (flag : ℕ) → (program : List ℕ) → State
trial_state flag program = beside_state 0 flag program

-- ending waved; rows, registers, data words, PSWs and flag as before; these PTs in the two queues
pub record WavedOnly (s : State) (own sfu : List ℕ) : Type 0 where
  pub ending : (item 1 s).ending ≡ Waved
  pub rows : (item 1 s).state.rows ≡ s.rows
  pub registers : (item 1 s).state.registers ≡ s.registers
  pub data_words : (item 1 s).state.data_words ≡ s.data_words
  pub psws : (item 1 s).state.table.users.psw ≡ s.table.users.psw
  pub flag : (item 1 s).state.table.users.flag ≡ s.table.users.flag
  pub before : list_of (task_queue s.table.users 1) ≡ 3 ∷ 5 ∷ []
  pub after : list_of (task_queue (item 1 s).state.table.users 1) ≡ own
  pub waiting : list_of (acting_queue (item 1 s).state.table.users Try 1) ≡ sfu

pub record WavedTrials : Type 0 where
  -- an access test unmet: MOV waits for an empty D
  pub access : WavedOnly (trial_state 0 (instruction_word 0x611F 0x1000 0x1001 0 ∷ 0 ∷ [])) (5 ∷ 3 ∷ []) []
  -- a data state unmet: LODI with SAC 1 of an empty word
  pub datum : WavedOnly (trial_state 0 (instruction_word 0x6C04 0 0x1001 0 ∷ 0 ∷ [])) (5 ∷ []) (3 ∷ [])
  -- a true CREATE with the create fault flag up
  pub create : WavedOnly (trial_state 1 (instruction_word 0x3970 0 0x1001 0x4000 ∷ 0 ∷ [])) (5 ∷ 3 ∷ []) []

pub waved_trials : WavedTrials
unfolding opened instruction_word exclusion_row trial_queue no_trial_queue beside_state trial_state
waved_trials = record {
  access = record { ending = refl; rows = refl; registers = refl; data_words = refl; psws = refl; flag = refl; before = refl; after = refl; waiting = refl };
  datum = record { ending = refl; rows = refl; registers = refl; data_words = refl; psws = refl; flag = refl; before = refl; after = refl; waiting = refl };
  create = record { ending = refl; rows = refl; registers = refl; data_words = refl; psws = refl; flag = refl; before = refl; after = refl; waiting = refl };
}
