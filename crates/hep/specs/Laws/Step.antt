-- A step: of the rows that were loaded and stored, and so of the lent slice.
use Rattle.std.specs.Prelude.{ℕ, ◌≡◌, ◌==◌, ◌<◌, refl, Bool, cond, List, length, take, drop, position, unwrap_or, Some, None, Result}
use Rattle.std.specs.List.{position_or_len}
use Rattle.std.proofs.Common.{sym, ◌∙◌, subst, arith, lt-ltb}
use Rattle.std.proofs.lemmas.List.Recursion.{is_position_or_len}
use Rattle.std.proofs.Math.Path.{ap}
use Rattle.window.specs.declared.Row.{Row}
use Rattle.operation.specs.Decide.{decide}
use Rattle.step.specs.declared.Ending.{Ending}
use Rattle.step.specs.State.{State}
use Rattle.step.specs.Step.{item}
use Rattle.step.proofs.Laws.Item.{item_lengths}
use Rattle.library.specs.declared.Rows.{Rows}
use Rattle.library.specs.declared.Sizes.{Sizes}
use Rattle.library.specs.Buffers.{Buffers}
use Rattle.library.specs.Calls.{task_refusal, step_refusal, step_answer, step_leaves}
use Rattle.library.specs.Code.HeldRows.{held_rows, SamePlaces}
use Rattle.library.specs.Code.RowPlace.{place_of, StandsAt}
use Rattle.library.proofs.Laws.RowPlace.{first_listed, place_below_lem}
use Rattle.library.specs.Promises.{step_answered, StepPromise}
use Rattle.library.proofs.Laws.Numbers.{step_promise}
use Rattle.hep.specs.Code.Rows.{loaded_rows, stored_rows}
use Rattle.hep.specs.Laws.Seven.{with_rows, behind, seven}
use Rattle.hep.specs.Laws.Lent.{rows_held, first_seven, stored_back}
use Rattle.hep.specs.Laws.Called.{answered_seven, left_seven}
use Rattle.refusal.specs.declared.Refusal.{Refusal}

-- the place of a task's row, as a search finds it
place_found : (t : ℕ) (rows : List Row) → place_of t rows ≡ position_or_len (λ (r : Row). r.task == t) rows
unfolding place_of
place_found t rows =
    is_position_or_len (place_of t) (λ (r : Row). r.task == t) refl
    (λ r rs. ap (λ (n : ℕ). cond (r.task == t) 0 n) (omega arith)) rows

module _ (b : Buffers) (n : Sizes) (t : ℕ) where
  abbrev rest : List Row
  rest = drop 7 b.rows

  abbrev ending : State → Ending
  ending x = (item t x).ending

  abbrev after : State → State
  after x = (item t x).state

  keeps : (x : State) → length (after x).rows ≡ length x.rows
  unfolding item
  keeps x = (item_lengths decide t x).rows

  step_seven : (r : Result Ending Refusal) (a : Buffers) → StepPromise n (seven b) t r a → StepPromise n b t r (behind rest a)
  unfolding step_refusal step_answer step_leaves
  step_seven r a p =
      step_promise (p.answer ∙ ap step_answered (answered_seven b n (task_refusal t) ending after keeps))
      (ap (behind rest) p.leaves ∙ left_seven b n (task_refusal t) ending after keeps)

  -- where the whole slice has the task's row, the first seven have it
  stands : (i k : ℕ) → i ≡ unwrap_or (position (λ (r : Row). r.task == t) b.rows) k → StandsAt t (take 7 b.rows) i
  stands i k e h =
      let f = first_listed t 7 b.rows h in
      let q = place_found t b.rows in
      let p : position_or_len (λ (r : Row). r.task == t) b.rows < length b.rows = rw q at (place_below_lem t b.rows f.0) in
      e ∙ ap (λ (z : Bool). unwrap_or (cond z (Some (position_or_len (λ (r : Row). r.task == t) b.rows)) None) k) (lt-ltb _ _ p) ∙ sym q ∙ sym f.1

  -- of the rows that were loaded and stored, and so of the lent slice
  pub step_lent : (r : Result Ending Refusal) (v v' : Rows) (i k : ℕ) (rows' : List Row) (a : Buffers) → v ≡ loaded_rows b.rows → i ≡ unwrap_or (position (λ (r : Row). r.task == t) b.rows) k
      → (StandsAt t (held_rows v) i → StepPromise n (with_rows (held_rows v) b) t r (with_rows (held_rows v') a)) × SamePlaces v v' → rows' ≡ stored_rows b.rows v' → StepPromise n b t r (with_rows rows' a)
  step_lent r v v' i k rows' a e f p q =
      let h : StandsAt t (held_rows v) i = subst (λ (y : List Row). StandsAt t y i) (sym (ap held_rows e ∙ rows_held b.rows)) (stands i k f) in
      stored_back b (λ x y. StepPromise n x t r y) v e v' rows' a p.1 q
      (step_seven r (with_rows (held_rows v') a) (first_seven b (λ x y. StepPromise n x t r y) v e (with_rows (held_rows v') a) (p.0 h)))
