use native.Mathlib.Omega.{arith}
use Rattle.image_write.proofs.Parts.{rows_length}
use Rattle.image_write.proofs.Sections.{tasks_size, tasks_put}
use Rattle.image_write.proofs.put_tasks.Goals as goal

pub returns : goal.returns
returns c =
    let rows = c.args.rows.now in
    let e = c.put_rows.ensures in
    record { value = omega (arith, e.value, tasks_size rows, rows_length rows); output_after = tasks_put rows _ c.requires c.put_number.ensures e.output_after }
