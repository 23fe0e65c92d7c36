use mathlib.Core.Path.{sym, ◌∙◌}
use Rattle.hep_c.specs.Laws.Numbers.{filling_refused, filling_found}
use Rattle.hep_c.proofs.hep_fill.Goals as goal

pub returns-in-Err : goal.returns-in-Err
returns-in-Err c = let both = filling_refused c.args.filling.now _ _ _ (sym c.fill.ensures ∙ c.in-Err.is) c.number.ensures in record { answer = both.0; left = both.1 }

pub returns-in-Ok : goal.returns-in-Ok
returns-in-Ok c = let both = filling_found c.args.filling.now _ _ _ _ (sym c.fill.ensures ∙ c.in-Ok.is) (c.put_filling.ensures.answer, c.put_filling.ensures.left) in record { answer = both.0; left = both.1 }
