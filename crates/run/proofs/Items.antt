-- Runs of two and three items.
use Rattle.std.specs.Prelude.{◌≡◌, refl, [], ◌∷◌, ◌++◌, get_or, replicate}
use Rattle.operation.proofs.Exclusions.{instruction_word, exclusion_row}
use Rattle.step.specs.State.{State}
use Rattle.step.proofs.Instances.{trial_queue, no_trial_queue, beside_state, trial_state}
use Rattle.step.specs.Step.{no_trap}
use Rattle.step.proofs.SfuInstances.{queue_with, row_with, sfu_program, sfu_psws, sfu_state}
use Rattle.run.specs.Run.{counts, no_counts, summed, own_counts, run}
use Rattle.run.proofs.Laws.Opened.{opened}

-- task 1 with two processes at INC of register 6, then NOP
unfoldable pub counting : State
counting = trial_state 0 (instruction_word 0x6130 0 0 0 ∷ 0 ∷ [])

pub record ItemTrials : Type 0 where
  -- each item works on the state that the item before it left
  pub two : (run (1 ∷ 1 ∷ []) counting).notes.counts ≡ counts 2 0 0 0 0
  pub two_state : get_or (run (1 ∷ 1 ∷ []) counting).state.registers.words 6 0 ≡ 2
  -- an unlisted task is idle
  pub three : (run (1 ∷ 3 ∷ 1 ∷ []) counting).notes.counts ≡ counts 2 0 0 1 0
  pub three_state : get_or (run (1 ∷ 3 ∷ 1 ∷ []) counting).state.registers.words 6 0 ≡ 2
  -- two tries alone count as items; an item with a try and a step counts by its step
  pub tries : (run (1 ∷ 1 ∷ []) (sfu_state (row_with no_trap 0) [] (0 ∷ 6 ∷ []) 0 0 0)).notes.counts ≡ counts 0 2 0 0 2
  pub both : (run (1 ∷ []) (sfu_state (row_with no_trap 0) (1 ∷ []) (0 ∷ []) 0 0 0)).notes.counts ≡ counts 1 0 0 0 1
  -- a try that executes alone, and one that traps
  pub tried : (run (1 ∷ []) (sfu_state (row_with no_trap 0) [] (0 ∷ []) 0 1 0)).notes.counts ≡ counts 1 0 0 0 1
  pub trapped : (run (1 ∷ []) (sfu_state (row_with no_trap 0) (1 ∷ []) (2 ∷ []) 0 0 0)).notes.counts ≡ counts 0 0 1 0 1
  -- an item counts under its task's number, listed or not
  pub own_1 : own_counts 1 (run (1 ∷ 3 ∷ 1 ∷ []) counting).notes ≡ counts 2 0 0 0 0
  pub own_2 : own_counts 2 (run (1 ∷ 3 ∷ 1 ∷ []) counting).notes ≡ no_counts
  pub own_3 : own_counts 3 (run (1 ∷ 3 ∷ 1 ∷ []) counting).notes ≡ counts 0 0 0 1 0
  -- its tries too: task 1 makes two, an item of task 3 between them none
  pub own_tries_1 : own_counts 1 (run (1 ∷ 3 ∷ 1 ∷ []) (sfu_state (row_with no_trap 0) [] (0 ∷ 6 ∷ []) 0 0 0)).notes ≡ counts 0 2 0 0 2
  pub own_tries_3 : own_counts 3 (run (1 ∷ 3 ∷ 1 ∷ []) (sfu_state (row_with no_trap 0) [] (0 ∷ 6 ∷ []) 0 0 0)).notes ≡ counts 0 0 0 1 0
  -- task 7 is the last: eight places, of which the first stays empty
  pub own_all : (run (7 ∷ 1 ∷ 7 ∷ []) counting).notes.own ≡ no_counts ∷ counts 1 0 0 0 0 ∷ (replicate 5 no_counts ++ (counts 0 0 0 2 0 ∷ []))
  pub own_past : own_counts 8 (run (1 ∷ []) counting).notes ≡ no_counts
  pub sums : summed (counts 1 2 3 4 5 ∷ counts 10 20 30 40 50 ∷ counts 100 200 300 400 500 ∷ []) ≡ counts 111 222 333 444 555

pub item_trials : ItemTrials
unfolding opened instruction_word exclusion_row trial_queue no_trial_queue beside_state trial_state counting queue_with row_with sfu_program sfu_psws sfu_state
item_trials = record {
  two = refl;
  two_state = refl;
  three = refl;
  three_state = refl;
  tries = refl;
  both = refl;
  tried = refl;
  trapped = refl;
  own_1 = refl;
  own_2 = refl;
  own_3 = refl;
  own_tries_1 = refl;
  own_tries_3 = refl;
  own_all = refl;
  own_past = refl;
  sums = refl;
}
