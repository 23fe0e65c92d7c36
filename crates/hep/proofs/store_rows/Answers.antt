use mathlib.Core.Path.{◌≡◌}
use native.Mathlib.Omega.{arith}
use lib.ListN.{length}
use borrow.Author.Rules.{rules}
use Rattle.hep.specs.Laws.Rows.{stores}
use Rattle.hep.proofs.store_rows.Goals as goal

pub returns : goal.returns
returns c =
    let seven : length c.args.v.at ≡ 7 = search rules in
    stores c.args.rows.now c.args.v c.min-n.result c.copy_from_slice.new.self seven (omega (arith, c.min-n.ensures)) c.copy_from_slice.ensures.after
