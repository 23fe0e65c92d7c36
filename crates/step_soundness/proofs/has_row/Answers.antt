use Rattle.std.proofs.Common.{◌∙◌, eqb, rules, tests}
use Rattle.std.proofs.lemmas.Iterator.{YieldsList-from_slice}
use Rattle.std.proofs.lemmas.Iterator.Search.{any_from_yields_List}
use Rattle.window.specs.declared.Row.{Row}
use Rattle.step_soundness.proofs.Loops.{has_any}
use Rattle.step_soundness.proofs.has_row.Goals as goal

pub returns : goal.returns
returns c =
    let a = c.args in
    any_from_yields_List (λ (r : Row). eqb r.task a.t) _ _ _ c.any.ensures.ran (YieldsList-from_slice a.rows.now cc) (λ x b q k. search (rules, tests))
    ∙ has_any a.t a.rows.now
