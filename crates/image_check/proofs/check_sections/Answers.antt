use mathlib.Core.Path.{refl, sym}
use Rattle.std.proofs.lemmas.Result.{err_from_is_err_and}
use Rattle.image_bytes.specs.Code.Reading.{number_at}
use Rattle.image_bytes.specs.Code.Scanning.{scan, tag_test, tag_refusal}
use Rattle.image_check.proofs.Chains.{image_scan}
use Rattle.image_check.proofs.check_sections.Goals as goal

pub returns-in_err-at : goal.returns-in_err-at
unfolding number_at scan tag_test tag_refusal
returns-in_err-at c =
    let p = err_from_is_err_and c.from_residual.result c.from_residual.ensures.1 in
    rw (p.1, p.2) (sym (image_scan c.args.s.now c.in_err-at.ensures refl refl refl refl refl))

pub returns-in_err-at-2 : goal.returns-in_err-at-2
unfolding number_at scan tag_test tag_refusal
returns-in_err-at-2 c =
    let p = err_from_is_err_and c.from_residual-in_err-at-2.result c.from_residual-in_err-at-2.ensures.1 in
    rw (p.1, p.2) (sym (image_scan c.args.s.now c.in_ok-at.ensures (rw c.number_at-rows.ensures.value at c.in_err-at-2.ensures) refl refl refl refl))

pub returns-in_err-at-3 : goal.returns-in_err-at-3
unfolding number_at scan tag_test tag_refusal
returns-in_err-at-3 c =
    let p = err_from_is_err_and c.from_residual-in_err-at-3.result c.from_residual-in_err-at-3.ensures.1 in
    rw (p.1, p.2) (sym (image_scan c.args.s.now c.in_ok-at.ensures (rw c.number_at-rows.ensures.value at c.in_ok-at-2.ensures) c.in_err-at-3.ensures refl refl refl))

pub returns-in_err-at-4 : goal.returns-in_err-at-4
unfolding number_at scan tag_test tag_refusal
returns-in_err-at-4 c =
    let p = err_from_is_err_and c.from_residual-in_err-at-4.result c.from_residual-in_err-at-4.ensures.1 in
    rw (p.1, p.2) (sym (image_scan c.args.s.now c.in_ok-at.ensures (rw c.number_at-rows.ensures.value at c.in_ok-at-2.ensures) c.in_ok-at-3.ensures c.in_err-at-4.ensures refl refl))

pub returns-in_err-at-5 : goal.returns-in_err-at-5
unfolding number_at scan tag_test tag_refusal
returns-in_err-at-5 c =
    let p = err_from_is_err_and c.from_residual-in_err-at-5.result c.from_residual-in_err-at-5.ensures.1 in
    rw (p.1, p.2) (sym (image_scan c.args.s.now c.in_ok-at.ensures (rw c.number_at-rows.ensures.value at c.in_ok-at-2.ensures) c.in_ok-at-3.ensures c.in_ok-at-4.ensures c.in_err-at-5.ensures refl))

pub returns : goal.returns
unfolding number_at tag_test tag_refusal
returns c = sym (image_scan c.args.s.now c.in_ok-at.ensures (rw c.number_at-rows.ensures.value at c.in_ok-at-2.ensures) c.in_ok-at-3.ensures c.in_ok-at-4.ensures c.in_ok-at-5.ensures c.check_cells-3.ensures)
