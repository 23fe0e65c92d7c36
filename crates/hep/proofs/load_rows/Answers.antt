use native.Mathlib.Omega.{arith}
use Rattle.hep.specs.Laws.Rows.{loads}
use Rattle.hep.proofs.load_rows.Goals as goal

pub returns : goal.returns
returns c = loads c.args.rows.now c.min-n.result c.copy_from_slice.new.self c.no_rows-at.result (omega (arith, c.min-n.ensures)) c.copy_from_slice.ensures.after c.no_rows-at.ensures
