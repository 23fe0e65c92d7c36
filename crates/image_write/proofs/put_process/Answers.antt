use Rattle.image.specs.Codec.{num, seq, via}
use Rattle.image.specs.Image.{process_codec}
use Rattle.image_write.specs.Code.Bytes.{process_bytes}
use Rattle.image_write.proofs.Going.{three}
use Rattle.image_write.proofs.put_process.Goals as goal

pub returns : goal.returns
unfolding process_bytes process_codec via seq num
returns c =
    three _ _ _ _ _ _ _ _ c.requires
    (rw c.from.ensures at c.put_number.ensures)
    (rw (c.from-2.ensures, c.task_byte-task.ensures) at c.put_number-2.ensures)
    c.put_number-3.ensures
