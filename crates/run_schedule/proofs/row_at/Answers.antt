use mathlib.Core.Path.{◌≡◌}
use Prim.Native.Nat.{◌%◌, ◌<◌}
use native.Mathlib.Omega.{arith}
use lib.ListN.{length}
use Rattle.library.proofs.Laws.RowPlace.{get_d_any}
use Rattle.run_schedule.proofs.row_at.Goals as goal

pub returns : goal.returns
returns c =
    let a = c.args in
    let seven : length a.rows ≡ 7 = c.well_formed.0.1.0.1 in
    let within : a.i % 7 < 7 = omega arith in
    get_d_any a.rows (a.i % 7) _ _ (omega (arith, seven, within))
