-- Schedules at both sides of their boundaries.
use Rattle.std.specs.Prelude.{◌≡◌, refl, [], ◌∷◌, replicate, None, Some}
use Rattle.refusal.specs.declared.Refusal.TheVariants.{ListTooLong, ItemOutOfRange}
use Rattle.step.specs.Soundness.{every}
use Rattle.run.specs.Schedule.{item_sound, schedule_refusal}

pub record ScheduleTrials : Type 0 where
  -- 65,535 items and one more; 9 comes before 10
  pub longest : schedule_refusal (replicate 65535 2) ≡ None
  pub longer : schedule_refusal (replicate 65536 0) ≡ Some ListTooLong
  -- items 1 and 7, 0 and 8
  pub items : schedule_refusal (1 ∷ 7 ∷ []) ≡ None
  pub item_0 : schedule_refusal (2 ∷ 0 ∷ []) ≡ Some ItemOutOfRange
  pub item_8 : schedule_refusal (8 ∷ 2 ∷ []) ≡ Some ItemOutOfRange

pub schedule_trials : ScheduleTrials
unfolding schedule_refusal item_sound every
schedule_trials = record { longest = refl; longer = refl; items = refl; item_0 = refl; item_8 = refl }
