use Rattle.std.proofs.Common.{◌∙◌, rules, tests}
use Rattle.std.proofs.lemmas.Iterator.{YieldsList-from_slice}
use Rattle.std.proofs.lemmas.Iterator.Search.{all_from_yields_List}
use Rattle.step.specs.Soundness.{row_ends_in}
use Rattle.step_soundness.proofs.Loops.{windows_all}
use Rattle.step_soundness.proofs.windows_sound.Goals as goal

pub returns : goal.returns
returns c =
    let a = c.args in
    all_from_yields_List (row_ends_in a.registers a.program a.data_words) _ _ _ c.all.ensures.ran (YieldsList-from_slice a.rows.now cc) (λ x b q k. search (rules, tests))
    ∙ windows_all a.registers a.program a.data_words a.rows.now
