-- What a step does about each decision, as instances that compute: queue, PSWs, trap record, cells. Task 1 has the processes 3 and 5 at PC 0.
use Rattle.std.specs.Prelude.{◌≡◌, refl, List, [], ◌∷◌, ℕ, set, replicate}
use Rattle.window.specs.declared.Row.{Row}
use Rattle.window.specs.declared.Cell.{Cell}
use Rattle.window.specs.Memories.{cell, cell_at}
use Rattle.operation.specs.declared.Trap.TheVariants.{CreateFault, IllegalInstruction, SupervisorCall}
use Rattle.operation.proofs.Exclusions.{exclusion_row, instruction_word}
use Rattle.step.specs.declared.Ending.{Ending}
use Rattle.step.specs.declared.Ending.TheVariants.{Executed, Trapped}
use Rattle.step.specs.Queues.{list_of}
use Rattle.step.specs.State.{task_queue}
use Rattle.step.specs.Act.{trapped_row}
use Rattle.step.specs.Step.{Item, item}
use Rattle.step.proofs.Instances.{trial_queue, no_trial_queue, beside_state}
use Rattle.step.proofs.Laws.Opened.{opened}

-- a step of task 1 over an instruction, where task 2 has so many processes
unfoldable pub steps : (beside w : ℕ) → Item
steps n w = item 1 (beside_state n 0 (w ∷ 0 ∷ []))

-- all PSWs zero but that of this process
unfoldable pub psw_at : (pt psw : ℕ) → List ℕ
psw_at pt psw = set (replicate 64 0) pt psw

-- the ending, the row of task 1, its PTs from head to tail and all PSWs
pub record After (x : Item) (e : Ending) (r : Row) (pts words : List ℕ) : Type 0 where
  pub ending : x.ending ≡ e
  pub rows : x.state.rows ≡ r ∷ []
  pub processes : list_of (task_queue x.state.table.users 1) ≡ pts
  pub psws : x.state.table.users.psw ≡ words

-- MOV of register 7 to itself, S1 under access code 2; STOI of register 7 at byte 0
unfoldable pub moved : Cell
moved = cell_at (steps 0 (instruction_word 0x611F 1 0x1001 0)).state.registers 7

unfoldable pub stored : Cell
stored = cell_at (steps 0 (instruction_word 0xBC00 0 0x4000 1)).state.data_words 32

pub record ActTrials : Type 0 where
  -- executed: PC + 1 in the process, which goes to the tail
  pub nop : After (steps 0 0) Executed exclusion_row (5 ∷ 3 ∷ []) (psw_at 3 1)
  -- trapped: kind and PSW in the row, the PSW in the process too, which stays head; at the instruction, of SVC past it
  pub illegal : After (steps 0 (instruction_word 0xFFFF 0 0 0)) (Trapped IllegalInstruction 0) (trapped_row exclusion_row IllegalInstruction 0) (3 ∷ 5 ∷ []) (psw_at 3 0)
  pub svc : After (steps 0 (instruction_word 0x0900 0 0 0)) (Trapped SupervisorCall 1) (trapped_row exclusion_row SupervisorCall 1) (3 ∷ 5 ∷ []) (psw_at 3 1)
  -- QT: the process leaves
  pub quit : After (steps 0 (instruction_word 0x1970 0 0 0x4000)) Executed exclusion_row (5 ∷ []) (replicate 64 0)
  -- CREATE: the new process, with the lowest free PT, behind its creator; at the last one the creator stays head
  pub create : After (steps 0 (instruction_word 0x3970 0 0x4000 0x4000)) Executed exclusion_row (5 ∷ 3 ∷ 0 ∷ []) (set (psw_at 3 1) 0 1)
  pub fault : After (steps 61 (instruction_word 0x3970 0 0x4000 0x4000)) (Trapped CreateFault 1) (trapped_row exclusion_row CreateFault 1) (3 ∷ 5 ∷ 1 ∷ []) (set (psw_at 3 1) 1 1)
  -- sources are set empty first, then D is written: a register that is both is left full
  pub both : moved ≡ cell 0 0xF8
  pub store : stored ≡ cell 1 0xF8

pub act_trials : ActTrials
unfolding opened instruction_word exclusion_row trial_queue no_trial_queue beside_state steps psw_at moved stored
act_trials = record {
  nop = record { ending = refl; rows = refl; processes = refl; psws = refl };
  illegal = record { ending = refl; rows = refl; processes = refl; psws = refl };
  svc = record { ending = refl; rows = refl; processes = refl; psws = refl };
  quit = record { ending = refl; rows = refl; processes = refl; psws = refl };
  create = record { ending = refl; rows = refl; processes = refl; psws = refl };
  fault = record { ending = refl; rows = refl; processes = refl; psws = refl };
  both = refl;
  store = refl;
}
