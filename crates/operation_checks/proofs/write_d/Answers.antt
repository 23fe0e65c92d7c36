use Rattle.operation_checks.proofs.write_d.Goals as goal

pub returns : goal.returns
returns c = (simp (c.put.ensures.0, c.destination_tag.ensures, c.access.ensures), c.put.ensures.1)
