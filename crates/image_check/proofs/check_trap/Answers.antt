use mathlib.Core.Path.{sym, ◌∙◌}
use Rattle.std.specs.Prelude.{Ok}
use Rattle.std.proofs.lemmas.Result.{err_from_is_err_and}
use Rattle.refusal.specs.declared.Refusal.TheVariants.{TaskField}
use Rattle.step.specs.Soundness.{kind_sound, record_sound}
use Rattle.image_bytes.specs.Code.Scanning.{scan}
use Rattle.image_bytes.specs.Laws.Scans.{value_here, number_scan, field_scan}
use Rattle.image_check.specs.Code.Places.{trap_codec}
use native.Mathlib.Omega.{arith}
use Rattle.image_check.proofs.check_trap.Goals as goal

pub returns-in_err-at : goal.returns-in_err-at
unfolding trap_codec scan
returns-in_err-at c =
    let a = c.args in
    let p = err_from_is_err_and c.from_residual.result c.from_residual.ensures.1 in
    rw (p.1, p.2) (sym (field_scan 1 TaskField kind_sound (omega arith) a.s.now (Ok a.at) (value_here _ _ _ c.number_at-kind.ensures.value) c.kind_sound-sound.ensures c.in_err-at.ensures _))

pub returns : goal.returns
unfolding trap_codec
returns c =
    let a = c.args in
    let s = a.s.now in
    sym (field_scan 1 TaskField kind_sound (omega arith) s (Ok a.at) (value_here _ _ _ c.number_at-kind.ensures.value) c.kind_sound-sound.ensures c.in_ok-at.ensures _
    ∙ number_scan 8 TaskField (record_sound c.number_at-kind.result) (omega arith) s (Ok c.in_ok-at.at) (value_here _ _ _ c.number_at-psw.ensures.value) c.record_sound-sound.ensures
    c.check_number-2.ensures)
