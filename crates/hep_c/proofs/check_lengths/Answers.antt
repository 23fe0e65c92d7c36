use Rattle.std.proofs.Common.{sym, ◌∙◌}
use Rattle.hep_c.specs.Answers.{unless_refused}
use Rattle.hep_c.specs.Laws.Fitting.{short_memory, short_result, roomy}
use Rattle.hep_c.proofs.check_lengths.Goals as goal

pub returns-then-not-fits : goal.returns-then-not-fits
unfolding unless_refused
returns-then-not-fits c = rw (short_memory _ _ _ _ _ _ _ (sym c.fits.ensures ∙ c.if-not-fits.true))

pub returns-then-not-results_fit : goal.returns-then-not-results_fit
unfolding unless_refused
returns-then-not-results_fit c = rw (short_result _ _ _ _ _ _ _ (sym c.fits.ensures ∙ c.if-not-fits.false) (sym c.results_fit.ensures ∙ c.if-not-results_fit.true))

pub returns : goal.returns
returns c = rw (roomy _ _ _ _ _ _ _ (sym c.fits.ensures ∙ c.if-not-fits.false) (sym c.results_fit.ensures ∙ c.if-not-results_fit.false)) c.check_schedule.ensures
