-- All definitions of a filling at once, for trials that compute.
use Rattle.std.specs.Prelude.{ℕ}
use Rattle.filling.specs.Filling.{need_sound, needs_sound, jobs_sound, chosen, total, sum_of, keeps_rules, better_of, best_of, tries_of, inserted, descending, ceiling_of, filling_of, fill_answer}

-- naming this opens all of them
unfoldable pub opened : ℕ
unfolding need_sound needs_sound jobs_sound chosen total sum_of keeps_rules better_of best_of tries_of inserted descending ceiling_of filling_of fill_answer
opened = 0
