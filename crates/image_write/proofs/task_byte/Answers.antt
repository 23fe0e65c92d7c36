use mathlib.Core.Path.{refl}
use Rattle.image.specs.Image.{byte_of_queue}
use Rattle.image_write.proofs.task_byte.Goals as goal

pub returns : goal.returns
unfolding byte_of_queue
returns c = refl
