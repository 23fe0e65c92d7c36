use Rattle.std.proofs.Common.{sym, ◌∙◌}
use Rattle.std.proofs.lemmas.Result.{err_from_is_err_and}
use Rattle.image_check.proofs.Ends.{refused_image, ended_image}
use Rattle.image_check.proofs.check.Goals as goal

pub returns-in_err-end : goal.returns-in_err-end
returns-in_err-end c =
    let p = err_from_is_err_and c.from_residual.result c.from_residual.ensures.1 in
    rw (p.1, p.2) (refused_image c.args.image.now (sym c.check_sections.ensures ∙ c.in_err-end.was))

pub returns : goal.returns
returns c = c.check_end.ensures ∙ ended_image c.args.image.now (sym c.check_sections.ensures ∙ c.in_ok-end.was)
