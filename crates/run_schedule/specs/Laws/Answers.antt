-- What a run promises by its refusals: 8, then 9, then 10, then the counts.
use Rattle.std.specs.Prelude.{ℕ, ◌≤◌, ◌<◌, ◌≡◌, true, false, List, length, None, Some}
use borrow.Author.Tests.{lt-ltb, le-ltb}
use Rattle.refusal.specs.declared.Refusal.{Refusal}
use Rattle.refusal.specs.declared.Refusal.TheVariants.{UnsoundState, ListTooLong, ItemOutOfRange}
use Rattle.step.specs.Soundness.{every}
use Rattle.run.specs.Run.{run}
use Rattle.run.specs.Schedule.{most_items, item_sound, schedule_refusal}
use Rattle.library.specs.declared.Sizes.{Sizes}
use Rattle.library.specs.Buffers.{Buffers, fields_in, holding}
use Rattle.library.specs.Calls.{refuses, answers, unless, leaving, state_refused, state_refusal, or_else, run_refusal, run_answer, run_leaves}
use Rattle.library.specs.Promises.{run_answered, RunPromise}
use Rattle.library.proofs.Laws.Numbers.{run_promise}

module _ (n : Sizes) (b : Buffers) (l : List ℕ) where
  refused : (e : Refusal) → run_refusal n b l ≡ Some e → RunPromise n b l (run_answered (refuses e)) b
  unfolding run_answered run_answer run_leaves unless leaving
  refused e q = run_promise (rw q) (rw q)

  pub unsound : state_refused n b ≡ true → RunPromise n b l (run_answered (refuses UnsoundState)) b
  unfolding run_refusal state_refusal or_else
  unsound e = refused UnsoundState (rw e)

  pub too_long : state_refused n b ≡ false → most_items < length l → RunPromise n b l (run_answered (refuses ListTooLong)) b
  unfolding run_refusal state_refusal or_else schedule_refusal
  too_long e h = refused ListTooLong (rw (e, lt-ltb most_items (length l) h))

  pub out_of_range : state_refused n b ≡ false → length l ≤ most_items → every item_sound l ≡ false → RunPromise n b l (run_answered (refuses ItemOutOfRange)) b
  unfolding run_refusal state_refusal or_else schedule_refusal
  out_of_range e h i = refused ItemOutOfRange (rw (e, le-ltb most_items (length l) h, i))

  pub runs : state_refused n b ≡ false → length l ≤ most_items → every item_sound l ≡ true
      → RunPromise n b l (run_answered (answers (run l (fields_in n b)).notes)) (holding (run l (fields_in n b)).state b)
  unfolding run_answered run_answer run_leaves unless leaving run_refusal state_refusal or_else schedule_refusal
  runs e h i =
      let q : run_refusal n b l ≡ None = rw (e, le-ltb most_items (length l) h, i) in
      run_promise (rw q) (rw q)
