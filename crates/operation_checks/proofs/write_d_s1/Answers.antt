use Rattle.operation_checks.specs.Laws.Operands.{put_told}
use Rattle.operation_checks.proofs.write_d_s1.Goals as goal

pub returns : goal.returns
returns c = (put_told _ _ _ _ _ _ c.put.ensures.0 c.release_d_s1-tag.ensures.1 c.release_d_s1-tag.ensures.0, c.put.ensures.1)
