use mathlib.Core.Path.{refl}
use Rattle.window.specs.Windows.{window_of, data_word_window}
use Rattle.window.proofs.data_word_window.Goals as goal

pub returns : goal.returns
unfolding data_word_window window_of
returns c = refl
