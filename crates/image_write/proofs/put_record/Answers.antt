use Rattle.image_write.specs.Code.Bytes.{row_record}
use Rattle.image_write.proofs.Going.{two}
use Rattle.image_write.proofs.put_record.Goals as goal

pub returns : goal.returns
unfolding row_record
returns c = two _ _ _ _ _ _ c.requires (rw c.from.ensures at c.put_number.ensures) c.put_number-2.ensures
