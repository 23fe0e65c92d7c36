use mathlib.Core.Path.{refl}
use Rattle.window.specs.Windows.{window_of, program_window}
use Rattle.window.proofs.program_window.Goals as goal

pub returns : goal.returns
unfolding program_window window_of
returns c = refl
