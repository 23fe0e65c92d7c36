use mathlib.Core.Path.{refl, sym, ap, ◌∙◌}
use Rattle.std.specs.Prelude.{Ok}
use Rattle.std.proofs.lemmas.Result.{err_from_is_err_and}
use Rattle.refusal.specs.declared.Refusal.TheVariants.{ProcessField}
use Rattle.step.specs.Soundness.{flag_sound}
use Rattle.image.specs.Codec.{dec_many}
use Rattle.image.specs.Image.{process_codec, queue_after, processes_codec}
use Rattle.image_bytes.specs.Code.Scanning.{scan, Within}
use Rattle.image_bytes.specs.Laws.Spans.{num_spans}
use Rattle.image_bytes.specs.Laws.Scans.{value_here, within, number_scan, section_scan}
use Rattle.image_check.specs.Code.Places.{rows_at}
use native.Mathlib.Omega.{arith}
use Rattle.image_check.proofs.check_processes.Goals as goal

pub returns-in_err-at : goal.returns-in_err-at
unfolding processes_codec scan
returns-in_err-at c =
    let a = c.args in
    let s = a.s.now in
    let p = err_from_is_err_and c.from_residual.result c.from_residual.ensures.1 in
    rw (p.1, p.2) (sym (section_scan (process_codec (rows_at a.n s)) queue_after s 1 64 (omega arith) (Ok a.at) (value_here _ _ _ c.number_at-m.ensures.value) refl c.in_err-at.ensures
    (num_spans 1 ProcessField flag_sound) 0))

pub returns-in_err-at-2 : goal.returns-in_err-at-2
unfolding processes_codec scan flag_sound
returns-in_err-at-2 c =
    let a = c.args in
    let s = a.s.now in
    let rows = rows_at a.n s in
    let p = err_from_is_err_and c.from_residual-in_err-at-2.result c.from_residual-in_err-at-2.ensures.1 in
    rw (p.1, p.2) (sym (section_scan (process_codec rows) queue_after s 1 64 (omega arith) (Ok a.at) (value_here _ _ _ c.number_at-m.ensures.value) refl c.in_ok-at.ensures (num_spans 1 ProcessField flag_sound) 0
    ∙ ap (scan (dec_many (process_codec rows) queue_after 0 c.number_at-m.result) s) (number_scan 1 ProcessField flag_sound (omega arith) s (Ok c.in_ok-at.at)
    (value_here _ _ _ c.number_at-flag.ensures.value) refl c.in_err-at-2.ensures)))

pub check_each_process-requires : goal.check_each_process-requires
unfolding Within
check_each_process-requires c = within _ c.args.s.now (Ok c.in_ok-at.at) c.in_ok-at-2.ensures

pub returns : goal.returns
unfolding processes_codec flag_sound
returns c =
    let a = c.args in
    let s = a.s.now in
    let rows = rows_at a.n s in
    c.check_each_process.ensures
    ∙ sym (section_scan (process_codec rows) queue_after s 1 64 (omega arith) (Ok a.at) (value_here _ _ _ c.number_at-m.ensures.value) refl c.in_ok-at.ensures (num_spans 1 ProcessField flag_sound) 0
    ∙ ap (scan (dec_many (process_codec rows) queue_after 0 c.number_at-m.result) s) (number_scan 1 ProcessField flag_sound (omega arith) s (Ok c.in_ok-at.at)
    (value_here _ _ _ c.number_at-flag.ensures.value) refl c.in_ok-at-2.ensures))
