use Rattle.std.proofs.Common.{◌++◌, ap, length, drop}
use Rattle.hep_c.proofs.put_numbers.Goals as goal

pub returns : goal.returns
returns c = let rest = drop (length c.args.numbers.now) c.args.out.now in ap (λ l. l ++ rest) c.copy_from_slice.ensures.after
