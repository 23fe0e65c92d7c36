use mathlib.Core.Path.{refl}
use Rattle.window.specs.Windows.{window_of, register_window}
use Rattle.window.proofs.register_window.Goals as goal

pub returns : goal.returns
unfolding register_window window_of
returns c = refl
