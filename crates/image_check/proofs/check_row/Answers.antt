use mathlib.Core.Path.{refl, sym, ◌∙◌}
use Rattle.std.specs.Prelude.{Ok}
use Rattle.std.proofs.lemmas.Result.{err_from_is_err_and}
use Rattle.image_bytes.specs.Code.Scanning.{scan}
use Rattle.image_bytes.specs.Laws.Scans.{value_here}
use Rattle.image_check.proofs.Chains.{row_scan}
use Rattle.image_check.proofs.check_row.Goals as goal

pub returns-in_err-at : goal.returns-in_err-at
unfolding scan
returns-in_err-at c =
    let p = err_from_is_err_and c.from_residual.result c.from_residual.ensures.1 in
    rw (p.1, p.2) (sym (row_scan c.args.before c.args.s.now (Ok c.args.at) (value_here _ _ _ c.number_at-task.ensures.value) c.task_sound-sound.ensures c.in_err-at.ensures refl refl refl refl refl refl refl))

pub returns-in_err-at-2 : goal.returns-in_err-at-2
unfolding scan
returns-in_err-at-2 c =
    let p = err_from_is_err_and c.from_residual-in_err-at-2.result c.from_residual-in_err-at-2.ensures.1 in
    rw (p.1, p.2) (sym (row_scan c.args.before c.args.s.now (Ok c.args.at) (value_here _ _ _ c.number_at-task.ensures.value) c.task_sound-sound.ensures c.in_ok-at.ensures c.in_err-at-2.ensures refl refl refl refl refl refl))

pub returns-in_err-at-3 : goal.returns-in_err-at-3
unfolding scan
returns-in_err-at-3 c =
    let p = err_from_is_err_and c.from_residual-in_err-at-3.result c.from_residual-in_err-at-3.ensures.1 in
    rw (p.1, p.2) (sym (row_scan c.args.before c.args.s.now (Ok c.args.at) (value_here _ _ _ c.number_at-task.ensures.value) c.task_sound-sound.ensures c.in_ok-at.ensures c.in_ok-at-2.ensures c.in_err-at-3.ensures refl refl refl refl refl))

pub returns-in_err-at-4 : goal.returns-in_err-at-4
unfolding scan
returns-in_err-at-4 c =
    let p = err_from_is_err_and c.from_residual-in_err-at-4.result c.from_residual-in_err-at-4.ensures.1 in
    rw (p.1, p.2) (sym (row_scan c.args.before c.args.s.now (Ok c.args.at) (value_here _ _ _ c.number_at-task.ensures.value) c.task_sound-sound.ensures c.in_ok-at.ensures c.in_ok-at-2.ensures c.in_ok-at-3.ensures c.in_err-at-4.ensures refl refl refl refl))

pub returns-in_err-at-5 : goal.returns-in_err-at-5
unfolding scan
returns-in_err-at-5 c =
    let p = err_from_is_err_and c.from_residual-in_err-at-5.result c.from_residual-in_err-at-5.ensures.1 in
    rw (p.1, p.2) (sym (row_scan c.args.before c.args.s.now (Ok c.args.at) (value_here _ _ _ c.number_at-task.ensures.value) c.task_sound-sound.ensures c.in_ok-at.ensures c.in_ok-at-2.ensures c.in_ok-at-3.ensures c.in_ok-at-4.ensures c.in_err-at-5.ensures refl refl refl))

pub returns-in_err-at-6 : goal.returns-in_err-at-6
unfolding scan
returns-in_err-at-6 c =
    let p = err_from_is_err_and c.from_residual-in_err-at-6.result c.from_residual-in_err-at-6.ensures.1 in
    rw (p.1, p.2) (sym (row_scan c.args.before c.args.s.now (Ok c.args.at) (value_here _ _ _ c.number_at-task.ensures.value) c.task_sound-sound.ensures c.in_ok-at.ensures c.in_ok-at-2.ensures c.in_ok-at-3.ensures c.in_ok-at-4.ensures c.in_ok-at-5.ensures c.in_err-at-6.ensures refl refl))

pub returns-in_err-at-7 : goal.returns-in_err-at-7
unfolding scan
returns-in_err-at-7 c =
    let p = err_from_is_err_and c.from_residual-in_err-at-7.result c.from_residual-in_err-at-7.ensures.1 in
    rw (p.1, p.2) (sym (row_scan c.args.before c.args.s.now (Ok c.args.at) (value_here _ _ _ c.number_at-task.ensures.value) c.task_sound-sound.ensures c.in_ok-at.ensures c.in_ok-at-2.ensures c.in_ok-at-3.ensures c.in_ok-at-4.ensures c.in_ok-at-5.ensures c.in_ok-at-6.ensures c.in_err-at-7.ensures refl))

pub returns-in_err-at-8 : goal.returns-in_err-at-8
unfolding scan
returns-in_err-at-8 c =
    let p = err_from_is_err_and c.from_residual-in_err-at-8.result c.from_residual-in_err-at-8.ensures.1 in
    rw (p.1, p.2) (sym (row_scan c.args.before c.args.s.now (Ok c.args.at) (value_here _ _ _ c.number_at-task.ensures.value) c.task_sound-sound.ensures c.in_ok-at.ensures c.in_ok-at-2.ensures c.in_ok-at-3.ensures c.in_ok-at-4.ensures c.in_ok-at-5.ensures c.in_ok-at-6.ensures c.in_ok-at-7.ensures c.in_err-at-8.ensures))

pub returns : goal.returns
returns c =
    c.check_trap.ensures ∙ sym (row_scan c.args.before c.args.s.now (Ok c.args.at) (value_here _ _ _ c.number_at-task.ensures.value) c.task_sound-sound.ensures c.in_ok-at.ensures c.in_ok-at-2.ensures c.in_ok-at-3.ensures c.in_ok-at-4.ensures c.in_ok-at-5.ensures c.in_ok-at-6.ensures c.in_ok-at-7.ensures c.in_ok-at-8.ensures)
