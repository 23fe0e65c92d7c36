-- A run of a sound state leaves a sound state.
use Rattle.std.specs.Prelude.{◌≡◌, true, List, [], ◌∷◌, ℕ}
use Rattle.std.proofs.Common.{ap, ◌∙◌}
use Rattle.operation.specs.Decide.{decide}
use Rattle.step.specs.State.{State}
use Rattle.step.specs.Step.{item_by, item}
use Rattle.step.specs.Soundness.{sound}
use Rattle.step.proofs.Laws.Item.{item_sound_lem}
use Rattle.run.specs.Run.{tallied, no_tally, run}
use Rattle.run.proofs.Laws.Run.{after, run_after}

after_sound : (ts : List ℕ) (s : State) → sound s ≡ true → sound (after decide ts s) ≡ true
unfolding after item
after_sound [] s e = e
after_sound (t ∷ ts) s e = after_sound ts (item_by decide t s).state (item_sound_lem t s e)

pub run_sound : (schedule : List ℕ) (s : State) → sound s ≡ true → sound (run schedule s).state ≡ true
unfolding run
run_sound schedule s e = ap sound (run_after decide tallied schedule s no_tally) ∙ after_sound schedule s e
