use Rattle.hep_c.specs.Laws.Numbers.{put_short, put_all}
use Rattle.hep_c.proofs.put_listed.Goals as goal

pub returns-then-out-numbers : goal.returns-then-out-numbers
returns-then-out-numbers c = let both = put_short c.args.out.now c.args.numbers.now _ c.if-out-numbers.true c.number.ensures in record { answer = both.0; left = both.1 }

pub returns : goal.returns
returns c = let both = put_all c.args.out.now c.args.numbers.now _ c.if-out-numbers.false c.put_numbers.ensures in record { answer = both.0; left = both.1 }
