use Rattle.batch.specs.Laws.Texts.{run_refused, run_counted, promised_as}
use Rattle.batch.proofs.run_text.Goals as goal

pub returns-in-Err : goal.returns-in-Err
returns-in-Err c = promised_as _ _ _ _ _ (run_refused _ _ _ _ _ c.run_owned-x.ensures.0 _ c.in-Err.is) c.refusal_text.ensures

pub returns-in-Ok : goal.returns-in-Ok
returns-in-Ok c = promised_as _ _ _ _ _ (run_counted _ _ _ _ _ c.run_owned-x.ensures.0 _ c.in-Ok.is) c.report_text.ensures
