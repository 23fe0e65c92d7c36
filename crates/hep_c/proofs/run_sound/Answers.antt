use Rattle.std.proofs.Common.{sym, ◌∙◌}
use Rattle.hep_c.specs.Answers.{image_run_refusal}
use Rattle.hep_c.specs.Laws.Numbers.{refused_by, passed_by}
use Rattle.hep_c.specs.Laws.Promised.{sound_refused, sound_accepted}
use Rattle.hep_c.proofs.run_sound.Goals as goal

pub returns-in-Err : goal.returns-in-Err
unfolding image_run_refusal
returns-in-Err c = sound_refused _ _ _ _ _ _ c.requires (refused_by _ _ (sym c.check_lengths-lengths.ensures ∙ c.in-Err.is)) c.number.ensures

pub run_accepted-requires : goal.run_accepted-requires
unfolding image_run_refusal
run_accepted-requires c = record { found = c.requires; fine = passed_by _ _ (sym c.check_lengths-lengths.ensures ∙ c.in_default.is) }

pub returns : goal.returns
unfolding image_run_refusal
returns c = sound_accepted _ _ _ _ _ c.requires (passed_by _ _ (sym c.check_lengths-lengths.ensures ∙ c.in_default.is)) c.run_accepted.ensures
