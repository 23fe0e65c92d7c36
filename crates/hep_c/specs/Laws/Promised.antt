-- The promise of a run, from what the check finds and what the lengths and the schedule refuse.
use Rattle.std.specs.Prelude.{ℕ, ◌≤◌, ◌≡◌, List, length, Option, None, Ok, Err, Some}
use Rattle.std.proofs.Common.{sym, ◌∙◌}
use Rattle.std.proofs.Math.Path.{ap}
use Rattle.refusal.specs.declared.Refusal.{Refusal}
use Rattle.refusal.specs.Numbers.{number_of}
use Rattle.run.specs.Run.{Ran, run}
use Rattle.image.specs.Image.{Image, Decoded, good, state_of, decode}
use Rattle.library.specs.declared.Sizes.{Sizes}
use Rattle.library.specs.Buffers.{sizes_of}
use Rattle.library.specs.Calls.{Answer, refuses, answers, unless, check_answer}
use Rattle.library.specs.Promises.{read_answered}
use Rattle.hep_c.specs.Answers.{number_answered, Slices, count_numbers, image_run_refusal, image_run_answer, image_run_left, ImageRunPromise}
use Rattle.hep_c.specs.Laws.Fitting.{accepted}
use Rattle.hep_c.specs.Laws.Numbers.{found_bad, found_good}

module _ (image schedule : List ℕ) (l : Slices) where
  -- the image's refusals
  pub check_stays : (e : Refusal) (r : ℕ) → read_answered (check_answer (decode image)) ≡ Err e → r ≡ number_of e → ImageRunPromise image schedule l r l
  unfolding image_run_answer image_run_left number_answered
  check_stays e r h k = let q = found_bad (decode image) e h in record { answer = rw q k; leaves = rw q }

  -- where the check finds sizes
  answered : (z : Sizes) (d : Decoded) (i : Image) → d ≡ good i → sizes_of (state_of i) ≡ z
      → image_run_answer image schedule l d ≡ unless (image_run_refusal image schedule z l) (run schedule (state_of i))
  unfolding image_run_answer
  answered z d i e k = rw (e, k)

  -- 7, 9 and 10
  pub sound_refused : (z : Sizes) (e : Refusal) (r : ℕ) → read_answered (check_answer (decode image)) ≡ Ok z → image_run_refusal image schedule z l ≡ Some e
      → r ≡ number_of e → ImageRunPromise image schedule l r l
  unfolding unless number_answered image_run_left
  sound_refused z e r h k n =
      let f = found_good (decode image) z h in
      let a : image_run_answer image schedule l (decode image) ≡ refuses e =
      answered z (decode image) f.image f.is f.sizes ∙ ap (λ (o : Option Refusal). unless o (run schedule (state_of f.image))) k in
      record { answer = n ∙ ap number_answered (sym a); leaves = ap (λ (x : Answer Ran). image_run_left x l) (sym a) }

  pub sound_accepted : (z : Sizes) (after : Slices) → read_answered (check_answer (decode image)) ≡ Ok z → image_run_refusal image schedule z l ≡ None
      → after ≡ image_run_left (image_run_answer image schedule l (decode image)) l → ImageRunPromise image schedule l 0 after
  unfolding unless number_answered
  sound_accepted z after h e k =
      let f = found_good (decode image) z h in
      let a : image_run_answer image schedule l (decode image) ≡ answers (run schedule (state_of f.image)) =
      answered z (decode image) f.image f.is f.sizes ∙ ap (λ (o : Option Refusal). unless o (run schedule (state_of f.image))) e in
      record { answer = ap number_answered (sym a); leaves = k }

  pub counts_roomy : (n : Sizes) → image_run_refusal image schedule n l ≡ None → count_numbers ≤ length l.counts
  unfolding image_run_refusal
  counts_roomy n e = (accepted schedule n _ (length image) (length l.output) (length l.counts) (length l.report) e).counts_fit
