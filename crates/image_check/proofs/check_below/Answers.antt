use mathlib.Core.Path.{refl, sym}
use lib.Dec.{ltb}
use Rattle.std.specs.Prelude.{Ok}
use Rattle.image_bytes.specs.Laws.Scans.{value_here, number_scan}
use Rattle.image_check.proofs.check_below.Goals as goal

pub returns : goal.returns
returns c = let a = c.args in sym (number_scan a.w a.e (λ v. ltb v a.bound) c.requires a.s.now (Ok a.at) (value_here _ _ _ c.number_at-v.ensures.value) refl c.check_number.ensures)
