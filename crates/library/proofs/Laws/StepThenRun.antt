-- One step by a call, then a run of the other items by another: what the second finds, and what both leave.
use Rattle.std.specs.Prelude.{ℕ, suc, ◌≡◌, refl, Bool, true, false, cond, not, ◌&&◌, List, ◌∷◌, ltb, length}
use Rattle.std.proofs.Common.{sym, ap, ◌∙◌, arith, ltb-false, le-ltb, Option, None, Some}
use Rattle.refusal.specs.declared.Refusal.{Refusal}
use Rattle.refusal.specs.declared.Refusal.TheVariants.{ListTooLong, ItemOutOfRange}
use Rattle.step.specs.State.{State}
use Rattle.step.specs.Soundness.{every}
use Rattle.step.specs.Step.{account_of, item}
use Rattle.step.proofs.Laws.Rows.{none_some}
use Rattle.step.proofs.Laws.Item.{item_sound_lem}
use Rattle.run.specs.Schedule.{most_items, item_sound, schedule_refusal}
use Rattle.run.specs.Run.{Tally, tallied, run}
use Rattle.run.proofs.Laws.Run.{run_first_state, run_first_notes}
use Rattle.library.specs.declared.Sizes.{Sizes}
use Rattle.library.specs.Buffers.{Buffers, room_of, fits, fields_in, holding}
use Rattle.library.specs.Calls.{answers, unless, leaving, state_refusal, or_else, run_refusal, run_answer, run_leaves, task_refusal, step_refusal, step_answer, step_leaves}
use Rattle.library.proofs.Laws.InPlace.{Sized, holding_fields, holding_twice, run_sized, step_sized}
use Rattle.library.proofs.Laws.InTurn.{held_unrefused, run_answers, run_leaves_lem}
use Rattle.library.proofs.Laws.Refused.{or_else_none, or_else_second, run_parts}

-- a list that isn't refused: neither is its first item, nor the list of the others
schedule_parts : (t : ℕ) (ts : List ℕ) → schedule_refusal (t ∷ ts) ≡ None → (task_refusal t ≡ None) × (schedule_refusal ts ≡ None)
unfolding schedule_refusal task_refusal every
schedule_parts t ts e = go (ltb most_items (suc (length ts))) (item_sound t) (every item_sound ts) refl e
  where
    go : (l u v : Bool) → ltb most_items (suc (length ts)) ≡ l
        → cond l (Some ListTooLong) (cond (not (u && v)) (Some ItemOutOfRange) None) ≡ None
        → (cond (not u) (Some ItemOutOfRange) None ≡ None) × (cond (ltb most_items (length ts)) (Some ListTooLong) (cond (not v) (Some ItemOutOfRange) None) ≡ None)
    go true u v q k = absurd (none_some ListTooLong (sym k))
    go false false v q k = absurd (none_some ItemOutOfRange (sym k))
    go false true false q k = absurd (none_some ItemOutOfRange (sym k))
    go false true true q k =
        let h = ltb-false most_items (suc (length ts)) q in
        (refl, rw (le-ltb most_items (length ts) (omega (arith, h))))

or_else_both : (a b : Option Refusal) → a ≡ None → b ≡ None → or_else a b ≡ None
unfolding or_else
or_else_both a b e f = rw (e, f)

module _ (n : Sizes) (b : Buffers) (t : ℕ) (ts : List ℕ) (e : run_refusal n b (t ∷ ts) ≡ None) where
  abbrev s : State
  s = fields_in n b

  abbrev s' : State
  s' = (item t s).state

  state : state_refusal n b ≡ None
  unfolding run_refusal
  state = or_else_none (state_refusal n b) (schedule_refusal (t ∷ ts)) e

  items : (task_refusal t ≡ None) × (schedule_refusal ts ≡ None)
  unfolding run_refusal
  items = schedule_parts t ts (or_else_second (state_refusal n b) (schedule_refusal (t ∷ ts)) e)

  pub step_unrefused : step_refusal n b t ≡ None
  unfolding step_refusal
  step_unrefused = or_else_both (state_refusal n b) (task_refusal t) state items.0

  pub step_answers : step_answer n b t ≡ answers (item t s).ending
  unfolding step_answer unless
  step_answers = rw step_unrefused

  step_leaves_lem : step_leaves n b t ≡ holding s' b
  unfolding step_leaves step_answer unless leaving
  step_leaves_lem = rw step_unrefused

  fit : fits n (room_of b) ≡ true
  fit = (run_parts n b (t ∷ ts) e).0

  sized : Sized n s'
  sized = step_sized n b t fit

  pub others_unrefused : run_refusal n (step_leaves n b t) ts ≡ None
  unfolding run_refusal
  others_unrefused =
      or_else_both (state_refusal n (step_leaves n b t)) (schedule_refusal ts)
      (ap (state_refusal n) step_leaves_lem ∙ held_unrefused n s' b sized fit (item_sound_lem t s (run_parts n b (t ∷ ts) e).1)) items.1

  -- the second call finds the state that the first left
  found : fields_in n (step_leaves n b t) ≡ s'
  found = ap (fields_in n) step_leaves_lem ∙ holding_fields n s' b sized

  pub others_answer : run_answer n (step_leaves n b t) ts ≡ answers (run ts s').notes
  others_answer = run_answers n (step_leaves n b t) ts others_unrefused ∙ ap (λ (x : State). answers (run ts x).notes) found

  pub all_answers : run_answer n b (t ∷ ts) ≡ answers (tallied t (account_of (item t s)) (run ts s').notes)
  all_answers = run_answers n b (t ∷ ts) e ∙ ap (λ (m : Tally). answers m) (run_first_notes t ts s)

  after : (run ts (fields_in n (step_leaves n b t))).state ≡ (run (t ∷ ts) s).state
  after = ap (λ (x : State). (run ts x).state) found ∙ sym (run_first_state t ts s)

  pub all_left : run_leaves n (step_leaves n b t) ts ≡ run_leaves n b (t ∷ ts)
  all_left =
      run_leaves_lem n (step_leaves n b t) ts others_unrefused
      ∙ ap (λ (x : State). holding x (step_leaves n b t)) after
      ∙ ap (holding (run (t ∷ ts) s).state) step_leaves_lem
      ∙ holding_twice n (run (t ∷ ts) s).state s' b (run_sized n b (t ∷ ts) fit) sized
      ∙ sym (run_leaves_lem n b (t ∷ ts) e)
