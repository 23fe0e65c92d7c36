use native.Mathlib.Omega.{arith}
use Rattle.image_write.proofs.Parts.{rows_length, rows_none, rows_room, rows_goes}
use Rattle.image_write.proofs.Going.{start, ends, place_ends}
use Rattle.image_write.proofs.put_rows.Goals as goal

pub loop-row-init : goal.loop-row-init
loop-row-init c = start _ _ _ (omega (arith, c.requires, rows_length c.args.rows.now))

pub put_row-requires : goal.put_row-requires
put_row-requires c = rows_room c.args.rows.now c.loop-row.row-index c.loop-row.invariant (omega arith)

pub loop-row-preserved : goal.loop-row-preserved
loop-row-preserved c = rows_goes c.args.rows.now c.loop-row.row-index c.loop-row.invariant (omega arith) _ c.put_row.ensures

pub returns : goal.returns
returns c = let d = rows_none c.args.rows.now c.loop-row.row-index (omega arith) in record { value = place_ends _ _ _ c.loop-row.invariant d; output_after = ends _ _ _ c.loop-row.invariant d }
