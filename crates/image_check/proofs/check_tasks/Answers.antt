use mathlib.Core.Path.{refl, sym, ◌∙◌}
use Rattle.std.specs.Prelude.{Ok}
use Rattle.std.proofs.lemmas.Result.{err_from_is_err_and}
use Rattle.image.specs.Image.{row_codec, row_task, tasks_codec}
use Rattle.image_bytes.specs.Code.Scanning.{scan, Within}
use Rattle.image_bytes.specs.Laws.Scans.{value_here, within, list_section_scan}
use native.Mathlib.Omega.{arith}
use Rattle.image_check.proofs.check_tasks.Goals as goal

pub returns-in_err-at : goal.returns-in_err-at
unfolding tasks_codec scan
returns-in_err-at c =
    let a = c.args in
    let p = err_from_is_err_and c.from_residual.result c.from_residual.ensures.1 in
    rw (p.1, p.2) (sym (list_section_scan row_codec row_task a.s.now 1 7 (omega arith) (Ok a.at) (value_here _ _ _ c.number_at-n.ensures.value) refl c.in_err-at.ensures 0))

pub check_rows-requires : goal.check_rows-requires
unfolding Within
check_rows-requires c = within _ c.args.s.now (Ok c.args.at) c.in_ok-at.ensures

pub returns : goal.returns
unfolding tasks_codec
returns c =
    let a = c.args in
    c.check_rows.ensures ∙ sym (list_section_scan row_codec row_task a.s.now 1 7 (omega arith) (Ok a.at) (value_here _ _ _ c.number_at-n.ensures.value) refl c.in_ok-at.ensures 0)
