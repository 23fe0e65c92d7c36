use Rattle.image_write.proofs.Parts.{row_put}
use Rattle.image_write.proofs.put_row.Goals as goal

pub returns : goal.returns
returns c =
    row_put _ _ _ c.requires
    c.put_first.ensures
    c.put_second.ensures
    c.put_record.ensures
