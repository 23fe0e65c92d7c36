-- The live counts after a step of task 1, as instances that compute. Task 1 has two processes, task 2 those beside them.
use Rattle.std.specs.Prelude.{◌≡◌, refl, [], ◌∷◌, ℕ, replicate}
use Rattle.operation.specs.declared.Trap.TheVariants.{CreateFault}
use Rattle.operation.proofs.Exclusions.{exclusion_row, instruction_word}
use Rattle.step.specs.declared.Ending.{Ending}
use Rattle.step.specs.declared.Ending.TheVariants.{Executed, Trapped}
use Rattle.step.specs.Step.{Item, item}
use Rattle.step.proofs.Instances.{trial_queue, no_trial_queue, beside_state}
use Rattle.step.proofs.Laws.Opened.{opened}

-- QT always, CREATE always
unfoldable pub quitting : (beside : ℕ) → Item
quitting n = item 1 (beside_state n 0 (instruction_word 0x1970 0 0 0x4000 ∷ 0 ∷ []))

unfoldable pub creating : (beside : ℕ) → Item
creating n = item 1 (beside_state n 0 (instruction_word 0x3970 0 0x4000 0x4000 ∷ 0 ∷ []))

-- the ending, the counts of tasks 1 and 2, the total and the flag after a step
pub record LiveAfter (x : Item) (e : Ending) (mine beside total up : ℕ) : Type 0 where
  pub ending : x.ending ≡ e
  pub live : x.state.table.users.live ≡ 0 ∷ mine ∷ beside ∷ replicate 5 0
  pub count : x.state.table.users.count ≡ total
  pub flag : x.state.table.users.flag ≡ up

pub record LiveTrials : Type 0 where
  -- a process leaves: one fewer of its task and in all
  pub quit : LiveAfter (quitting 4) Executed 1 4 5 0
  -- a create at 3, at 62 and, under trap 00, at 63: one more of its task and in all
  pub created : LiveAfter (creating 1) Executed 3 1 4 0
  pub last : LiveAfter (creating 60) Executed 3 60 63 0
  pub fault : LiveAfter (creating 61) (Trapped CreateFault 1) 3 61 64 1

pub live_trials : LiveTrials
unfolding opened instruction_word exclusion_row trial_queue no_trial_queue beside_state quitting creating
live_trials = record {
  quit = record { ending = refl; live = refl; count = refl; flag = refl };
  created = record { ending = refl; live = refl; count = refl; flag = refl };
  last = record { ending = refl; live = refl; count = refl; flag = refl };
  fault = record { ending = refl; live = refl; count = refl; flag = refl };
}
