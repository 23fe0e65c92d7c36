-- The lengths that a run asks for, and its refusals.
use Rattle.std.specs.Prelude.{ℕ, ◌+◌, ◌≤◌, ◌<◌, ◌≡◌, Bool, cond, ◌&&◌, List, length, None, Some}
use Rattle.std.proofs.Math.Path.{refl}
use Rattle.std.proofs.Common.{sym, lt-ltb, le-ltb, leb-true}
use Rattle.std.proofs.Math.Bool.{true, false}
use Rattle.word.proofs.Laws.Conjunctions.{both}
use Rattle.refusal.specs.declared.Refusal.TheVariants.{ShortBuffer, ListTooLong, ItemOutOfRange}
use Rattle.step.specs.Soundness.{every}
use Rattle.step.proofs.Laws.Rows.{none_some}
use Rattle.run.specs.Schedule.{most_items, item_sound, schedule_refusal}
use Rattle.library.specs.declared.Sizes.{Sizes}
use Rattle.library.specs.Buffers.{Room, fits}
use Rattle.library.specs.Calls.{or_else}
use Rattle.hep_c.specs.Answers.{growth, count_numbers, results_fit, lengths_refusal}
use Rattle.report_text.specs.Texts.{report_room}

-- ---- a schedule

module _ (schedule : List ℕ) where
  pub too_long : most_items < length schedule → schedule_refusal schedule ≡ Some ListTooLong
  unfolding schedule_refusal
  too_long h = rw (lt-ltb most_items (length schedule) h)

  pub out_of_range : length schedule ≤ most_items → every item_sound schedule ≡ false → schedule_refusal schedule ≡ Some ItemOutOfRange
  unfolding schedule_refusal
  out_of_range h e = rw (le-ltb most_items (length schedule) h, e)

  pub schedule_fine : length schedule ≤ most_items → every item_sound schedule ≡ true → schedule_refusal schedule ≡ None
  unfolding schedule_refusal
  schedule_fine h e = rw (le-ltb most_items (length schedule) h, e)

-- ---- lengths

module _ (schedule : List ℕ) (n : Sizes) (memories : Room) (image output counts report : ℕ) where
  pub short_memory : fits n memories ≡ false → lengths_refusal schedule n memories image output counts report ≡ Some ShortBuffer
  unfolding lengths_refusal or_else
  short_memory e = rw e

  pub short_result : fits n memories ≡ true → results_fit image output counts report ≡ false → lengths_refusal schedule n memories image output counts report ≡ Some ShortBuffer
  unfolding lengths_refusal or_else
  short_result e f = rw (e, f)

  pub roomy : fits n memories ≡ true → results_fit image output counts report ≡ true
      → lengths_refusal schedule n memories image output counts report ≡ schedule_refusal schedule
  unfolding lengths_refusal or_else
  roomy e f = rw (e, f)

  -- where nothing is refused
  pub record Accepted : Type 0 where
    pub memories_fit : fits n memories ≡ true
    pub schedule_taken : schedule_refusal schedule ≡ None
    pub output_fits : image + growth ≤ output
    pub counts_fit : count_numbers ≤ counts
    pub report_fits : report_room ≤ report

  pub accepted : lengths_refusal schedule n memories image output counts report ≡ None → Accepted
  unfolding lengths_refusal or_else results_fit
  accepted e = go (fits n memories) refl (results_fit image output counts report) refl e
    where
      go : (m : Bool) → fits n memories ≡ m → (r : Bool) → results_fit image output counts report ≡ r
          → or_else (cond (m && r) None (Some ShortBuffer)) (schedule_refusal schedule) ≡ None → Accepted
      go true p true q h =
          let u = both (leb-true (image + growth) output) (both (leb-true count_numbers counts) (leb-true report_room report)) q in
          record { memories_fit = p; schedule_taken = h; output_fits = u.0; counts_fit = u.1.0; report_fits = u.1.1 }
      go true p false q h = absurd (none_some ShortBuffer (sym h))
      go false p r q h = absurd (none_some ShortBuffer (sym h))
