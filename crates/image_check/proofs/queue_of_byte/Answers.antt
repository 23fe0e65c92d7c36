use mathlib.Core.Path.{refl}
use Rattle.image.specs.Image.{queue_of_byte}
use Rattle.image_check.proofs.queue_of_byte.Goals as goal

pub returns : goal.returns
unfolding queue_of_byte
returns c = refl
