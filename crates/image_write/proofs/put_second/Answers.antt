use Rattle.image_write.specs.Code.Bytes.{row_second}
use Rattle.image_write.proofs.Going.{four}
use Rattle.image_write.proofs.put_second.Goals as goal

pub returns : goal.returns
unfolding row_second
returns c =
    four _ _ _ _ _ _ _ _ _ _ c.requires
    (rw c.from.ensures at c.put_number.ensures)
    (rw c.from-2.ensures at c.put_number-2.ensures)
    (rw c.from-3.ensures at c.put_number-3.ensures)
    (rw c.from-4.ensures at c.put_number-4.ensures)
