-- The output of the bytes read is no longer than its buffer, so all of it is written.
use Rattle.std.proofs.Common.{◌≡◌, ◌≤◌, ℕ, rules, arith, length, take, sym, ap, length-take-le}
use Rattle.std.proofs.lemmas.List.{length-replicate}
use Rattle.report.specs.Report.{output_of}
use Rattle.report_text.specs.Texts.{report_room}
use Rattle.batch.specs.Laws.Texts.{copied_fits}
use Rattle.hep_batch.proofs.Streams.{front_read, front_written, answered}
use Rattle.hep_batch.proofs.answer.Goals as goal

pub slice_bounds-out-end : goal.slice_bounds-out-end
slice_bounds-out-end g c =
    let few = copied_fits _ _ _ c.batch-k.ensures.answer in
    omega (arith, few, ap length c.output_buffer-out.ensures, length-replicate {A = ℕ} report_room 0)

pub slice_bounds-write_all-end : goal.slice_bounds-write_all-end
slice_bounds-write_all-end g c =
    let few = copied_fits _ _ _ c.batch-k.ensures.answer in
    let same : length c.batch-k.new.out ≡ report_room = search rules in
    sym (length-take-le c.batch-k.result c.batch-k.new.out (omega (arith, few, ap length c.output_buffer-out.ensures, length-replicate {A = ℕ} report_room 0)))

pub returns : goal.returns
returns g c =
    let n = c.in_ok-n.n in
    let buffer = c.read_full.new.buffer in
    let room : length buffer ≡ 65537 = search rules in
    let fits : n ≤ length buffer = c.in_ok-n.ensures.fits in
    let long : length (take n buffer) ≡ n = length-take-le n buffer fits in
    let reads = front_read 65537 _ _ (take n buffer) c.in_ok-n.ensures.bytes (omega (arith, long, fits, room)) (λ h. c.in_ok-n.ensures.end (omega (arith, long, room, h))) in
    let enough : length (output_of (take n buffer)) ≤ report_room = c.batch-k.ensures.enough in
    let writes = front_written _ _ c.batch-k.result c.batch-k.new.out c.batch-k.ensures.answer c.batch-k.ensures.left (omega (arith, enough, ap length c.output_buffer-out.ensures, length-replicate {A = ℕ} report_room 0)) in
    answered _ _ _ _ (take n buffer) _ c.write_all.ensures.bytes writes reads
