use mathlib.Core.Path.{refl}
use Rattle.library.specs.Empty.{empty_queue}
use Rattle.library.proofs.empty_queue.Goals as goal

pub returns : goal.returns
unfolding empty_queue
returns c = refl
