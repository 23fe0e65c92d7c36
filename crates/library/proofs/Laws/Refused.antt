-- Refusals of the calls on a state: 8 comes first, and a call that isn't refused finds a state that fits and is sound.
use Rattle.std.specs.Prelude.{ℕ, ◌≡◌, refl, Bool, true, false, cond, not, ◌&&◌, List, ltb, length}
use Rattle.std.proofs.Common.{sym, ap, Option, None, Some}
use Rattle.refusal.specs.declared.Refusal.{Refusal}
use Rattle.refusal.specs.declared.Refusal.TheVariants.{UnsoundState, ListTooLong, ItemOutOfRange}
use Rattle.step.specs.Soundness.{every, sound}
use Rattle.step.proofs.Laws.Rows.{none_some}
use Rattle.run.specs.Schedule.{most_items, item_sound, schedule_refusal}
use Rattle.image.specs.Image.{encode}
use Rattle.library.specs.declared.Sizes.{Sizes}
use Rattle.library.specs.Buffers.{Buffers, room_of, fits, fields_in}
use Rattle.library.specs.Calls.{state_refused, state_refusal, or_else, run_refusal, task_refusal, step_refusal, output_refusal, write_refusal}

-- ---- a state that is refused: so is the call, before its own refusals

pub run_state_first : (n : Sizes) (b : Buffers) (schedule : List ℕ) (e : Refusal) → state_refusal n b ≡ Some e → run_refusal n b schedule ≡ Some e
unfolding run_refusal or_else
run_state_first n b schedule e q = ap (λ (o : Option Refusal). or_else o (schedule_refusal schedule)) q

pub step_state_first : (n : Sizes) (b : Buffers) (t : ℕ) (e : Refusal) → state_refusal n b ≡ Some e → step_refusal n b t ≡ Some e
unfolding step_refusal or_else
step_state_first n b t e q = ap (λ (o : Option Refusal). or_else o (task_refusal t)) q

pub write_state_first : (n : Sizes) (b : Buffers) (room : ℕ) (e : Refusal) → state_refusal n b ≡ Some e → write_refusal n b room ≡ Some e
unfolding write_refusal or_else
write_state_first n b room e q = ap (λ (o : Option Refusal). or_else o (output_refusal room (encode (fields_in n b)))) q

-- ---- a state that isn't refused

pub or_else_none : (a b : Option Refusal) → or_else a b ≡ None → a ≡ None
unfolding or_else
or_else_none None b e = refl
or_else_none (Some x) b e = e

pub or_else_second : (a b : Option Refusal) → or_else a b ≡ None → b ≡ None
unfolding or_else
or_else_second None b e = e
or_else_second (Some x) b e = absurd (none_some x (sym e))

-- it fits and is sound
pub state_parts : (n : Sizes) (b : Buffers) → state_refusal n b ≡ None → (fits n (room_of b) ≡ true) × (sound (fields_in n b) ≡ true)
unfolding state_refusal state_refused
state_parts n b e = go (fits n (room_of b)) (sound (fields_in n b)) e
  where
    go : (t u : Bool) → cond (not (t && u)) (Some UnsoundState) None ≡ None → (t ≡ true) × (u ≡ true)
    go true true q = (refl, refl)
    go true false q = absurd (none_some UnsoundState (sym q))
    go false u q = absurd (none_some UnsoundState (sym q))

pub run_parts : (n : Sizes) (b : Buffers) (schedule : List ℕ) → run_refusal n b schedule ≡ None → (fits n (room_of b) ≡ true) × (sound (fields_in n b) ≡ true)
unfolding run_refusal
run_parts n b schedule e = state_parts n b (or_else_none (state_refusal n b) (schedule_refusal schedule) e)

-- and the items of the schedule are task numbers
pub run_items_sound : (n : Sizes) (b : Buffers) (schedule : List ℕ) → run_refusal n b schedule ≡ None → every item_sound schedule ≡ true
unfolding run_refusal schedule_refusal
run_items_sound n b schedule e = go (ltb most_items (length schedule)) (every item_sound schedule) (or_else_second (state_refusal n b) (schedule_refusal schedule) e)
  where
    go : (l u : Bool) → cond l (Some ListTooLong) (cond (not u) (Some ItemOutOfRange) None) ≡ None → u ≡ true
    go true u q = absurd (none_some ListTooLong (sym q))
    go false true q = refl
    go false false q = absurd (none_some ItemOutOfRange (sym q))

pub step_parts : (n : Sizes) (b : Buffers) (t : ℕ) → step_refusal n b t ≡ None → (fits n (room_of b) ≡ true) × (sound (fields_in n b) ≡ true)
unfolding step_refusal
step_parts n b t e = state_parts n b (or_else_none (state_refusal n b) (task_refusal t) e)
