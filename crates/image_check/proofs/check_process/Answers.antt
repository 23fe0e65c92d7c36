use mathlib.Core.Path.{sym, ◌∙◌}
use mathlib.Core.Bool.{◌&&◌}
use lib.Dec.{leb}
use Rattle.std.specs.Prelude.{Ok}
use Rattle.std.proofs.lemmas.Result.{err_from_is_err_and}
use Rattle.word.specs.Fields.{psw_sound}
use Rattle.refusal.specs.declared.Refusal.TheVariants.{ProcessField}
use Rattle.step.specs.Soundness.{pt_sound}
use Rattle.image.specs.Image.{queue_of_byte, byte_sound, process_codec, to_process, from_process}
use Rattle.image_bytes.specs.Code.Scanning.{scan}
use Rattle.image_bytes.specs.Laws.Spans.{num_spans}
use Rattle.image_bytes.specs.Laws.Scans.{value_here, number_scan, field_scan, then_scan, via_scan}
use Rattle.image_check.specs.Code.Places.{rows_at}
use native.Mathlib.Omega.{arith}
use Rattle.image_check.proofs.check_process.Goals as goal

pub returns-in_err-at : goal.returns-in_err-at
unfolding process_codec pt_sound scan
returns-in_err-at c =
    let a = c.args in
    let s = a.s.now in
    let p = err_from_is_err_and c.from_residual.result c.from_residual.ensures.1 in
    rw (p.1, p.2) (sym (via_scan to_process from_process _ s (Ok a.at)
    ∙ then_scan (num_spans 1 ProcessField _) s (Ok a.at) c.in_err-at.ensures _))

pub returns-in_err-at-2 : goal.returns-in_err-at-2
unfolding process_codec pt_sound scan
returns-in_err-at-2 c =
    let a = c.args in
    let s = a.s.now in
    let p = err_from_is_err_and c.from_residual-in_err-at-2.result c.from_residual-in_err-at-2.ensures.1 in
    rw (p.1, p.2) (sym (via_scan to_process from_process _ s (Ok a.at)
    ∙ then_scan (num_spans 1 ProcessField _) s (Ok a.at) c.in_ok-at.ensures _
    ∙ field_scan 1 ProcessField (λ b. leb a.before (queue_of_byte b) && byte_sound (rows_at a.n s) b) (omega arith) s (Ok c.in_ok-at.at) (value_here _ _ _ c.number_at-task.ensures.value)
    c.task_listed-listed.ensures c.in_err-at-2.ensures _))

pub returns : goal.returns
unfolding process_codec pt_sound
returns c =
    let a = c.args in
    let s = a.s.now in
    sym (via_scan to_process from_process _ s (Ok a.at)
    ∙ then_scan (num_spans 1 ProcessField _) s (Ok a.at) c.in_ok-at.ensures _
    ∙ field_scan 1 ProcessField (λ b. leb a.before (queue_of_byte b) && byte_sound (rows_at a.n s) b) (omega arith) s (Ok c.in_ok-at.at) (value_here _ _ _ c.number_at-task.ensures.value)
    c.task_listed-listed.ensures c.in_ok-at-2.ensures _
    ∙ number_scan 8 ProcessField psw_sound (omega arith) s (Ok c.in_ok-at-2.at) (value_here _ _ _ c.number_at-psw.ensures.value) c.psw_sound.ensures c.check_number-2.ensures)
