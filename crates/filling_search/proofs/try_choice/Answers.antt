use Rattle.std.proofs.Common.{arith}
use Rattle.std.proofs.lemmas.Bool.Decides.{nat_tests}
use Rattle.filling_search.specs.Laws.Choices.{bit_fits, job_done, all_done}
use Rattle.filling_search.proofs.try_choice.Goals as goal

pub overflow_add-sum : goal.overflow_add-sum
overflow_add-sum c = let l = c.loop-need in record { fits = omega (arith, bit_fits c.args.needs.now _ l.rest l.count l.sum l.need-index l.invariant (omega arith) c.requires) }

pub loop-need-preserved : goal.loop-need-preserved
loop-need-preserved c = let l = c.loop-need in job_done _ _ _ _ _ _ l.invariant (omega arith) c.requires

pub returns : goal.returns
returns c = let l = c.loop-need in let e = all_done c.args.needs.now c.args.choice l.rest l.count l.sum l.need-index l.invariant (omega arith) in grind (arith, nat_tests, e)
