-- A run: of the rows that were loaded and stored, and so of the lent slice.
use Rattle.std.specs.Prelude.{ℕ, ◌≡◌, List, length, drop}
use Rattle.std.proofs.Math.Path.{ap}
use Rattle.std.proofs.Common.{◌∙◌}
use Rattle.window.specs.declared.Row.{Row}
use Rattle.step.specs.State.{State}
use Rattle.run.specs.Run.{Tally, run}
use Rattle.run.specs.Schedule.{schedule_refusal}
use Rattle.run.proofs.Laws.Run.{run_lengths}
use Rattle.library.specs.declared.RunResult.{RunResult}
use Rattle.library.specs.declared.Rows.{Rows}
use Rattle.library.specs.declared.Sizes.{Sizes}
use Rattle.library.specs.Buffers.{Buffers}
use Rattle.library.specs.Calls.{run_refusal, run_answer, run_leaves}
use Rattle.library.specs.Code.HeldRows.{held_rows, SamePlaces}
use Rattle.library.specs.Promises.{run_answered, RunPromise}
use Rattle.library.proofs.Laws.Numbers.{run_promise}
use Rattle.hep.specs.Code.Rows.{loaded_rows, stored_rows}
use Rattle.hep.specs.Laws.Seven.{with_rows, behind, seven}
use Rattle.hep.specs.Laws.Lent.{first_seven, stored_back}
use Rattle.hep.specs.Laws.Called.{answered_seven, left_seven}

module _ (b : Buffers) (n : Sizes) (l : List ℕ) where
  abbrev rest : List Row
  rest = drop 7 b.rows

  abbrev notes : State → Tally
  notes x = (run l x).notes

  abbrev after : State → State
  after x = (run l x).state

  keeps : (x : State) → length (after x).rows ≡ length x.rows
  keeps x = (run_lengths l x).rows

  run_seven : (r : RunResult) (a : Buffers) → RunPromise n (seven b) l r a → RunPromise n b l r (behind rest a)
  unfolding run_refusal run_answer run_leaves
  run_seven r a p =
      run_promise (p.answer ∙ ap run_answered (answered_seven b n (schedule_refusal l) notes after keeps))
      (ap (behind rest) p.leaves ∙ left_seven b n (schedule_refusal l) notes after keeps)

  -- of the rows that were loaded and stored, and so of the lent slice
  pub run_lent : (r : RunResult) (v v' : Rows) (rows' : List Row) (a : Buffers) → v ≡ loaded_rows b.rows
      → RunPromise n (with_rows (held_rows v) b) l r (with_rows (held_rows v') a) × SamePlaces v v' → rows' ≡ stored_rows b.rows v' → RunPromise n b l r (with_rows rows' a)
  run_lent r v v' rows' a e p q =
      stored_back b (λ x y. RunPromise n x l r y) v e v' rows' a p.1 q
      (run_seven r (with_rows (held_rows v') a) (first_seven b (λ x y. RunPromise n x l r y) v e (with_rows (held_rows v') a) p.0))
