use mathlib.Core.Path.{refl}
use Rattle.library.specs.Empty.{empty_row}
use Rattle.library.proofs.empty_row.Goals as goal

pub returns : goal.returns
unfolding empty_row
returns c = refl
