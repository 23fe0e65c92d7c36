use Prim.Native.Nat.{◌+◌, ◌-◌}
use mathlib.Core.Path.{◌≡◌, sym, ◌∙◌}
use native.Mathlib.Nat.{sub-zero}
use Rattle.std.specs.Prelude.{Ok}
use Rattle.std.proofs.lemmas.Result.{err_from_is_err_and}
use Rattle.image.specs.Image.{row_codec, row_task}
use Rattle.image_bytes.specs.Code.Scanning.{scan, Within}
use Rattle.image_bytes.specs.Laws.Scans.{within, many_scan, many_none}
use Rattle.image_check.specs.Laws.Sections.{row_spans}
use Rattle.image_check.proofs.Chains.{row_leads}
use native.Mathlib.Omega.{arith}
use Rattle.image_check.proofs.check_rows.Goals as goal

pub loop-init : goal.loop-init
loop-init c = record { inside = c.requires; so_far = rw sub-zero }

pub returns-in_err-at : goal.returns-in_err-at
unfolding scan
returns-in_err-at c =
    let l = c.loop in
    let s = c.args.s.now in
    let p = err_from_is_err_and c.from_residual.result c.from_residual.ensures.1 in
    rw (p.1, p.2) (sym (l.invariant.so_far ∙ many_scan row_codec row_task s l.before (row_spans l.before) c.number_at-task.result (Ok l.at)
    (row_leads l.before s l.at c.number_at-task.ensures.value) (c.args.n - l.counter) (omega arith) c.in_err-at.ensures))

pub loop-preserved : goal.loop-preserved
unfolding Within
loop-preserved c =
    let l = c.loop in
    let s = c.args.s.now in
    let e : c.args.n - l.counter - 1 ≡ c.args.n - (l.counter + 1) = omega arith in
    record {
      inside = within (row_codec l.before).dec s (Ok l.at) c.in_ok-at.ensures;
      so_far = l.invariant.so_far ∙ rw e at (many_scan row_codec row_task s l.before (row_spans l.before) c.number_at-task.result (Ok l.at)
          (row_leads l.before s l.at c.number_at-task.ensures.value) (c.args.n - l.counter) (omega arith) c.in_ok-at.ensures);
    }

pub returns : goal.returns
unfolding Within
returns c =
    let l = c.loop in
    sym (l.invariant.so_far ∙ many_none row_codec row_task c.args.s.now l.before (Ok l.at) (c.args.n - l.counter) (omega arith) l.invariant.inside)
