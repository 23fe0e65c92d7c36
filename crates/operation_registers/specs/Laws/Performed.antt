-- What an operation performs is its result.
use Rattle.std.specs.Prelude.{◌≡◌}
use Rattle.std.proofs.Math.Path.{ap}
use Rattle.word.specs.declared.Instruction.{Instruction}
use Rattle.word.specs.declared.Outcome.{Outcome}
use Rattle.operation.specs.declared.Three.{Three}
use Rattle.operation.specs.declared.Two.{Two}
use Rattle.operation.specs.declared.One.{One}
use Rattle.operation.specs.declared.Operation.TheVariants as operation
use Rattle.operation.specs.declared.FoundOperands.{FoundOperands}
use Rattle.operation.specs.Environment.{Environment}
use Rattle.operation.specs.Results.{result_three, result_two, result_one}
use Rattle.operation.specs.Perform.{perform, perform_result}

module _ (v : Environment) (i : Instruction) (s : FoundOperands) (out : Outcome) where
  pub three_performed : (op : Three) → out ≡ result_three op s.second.cell.word s.third.cell.word
      → perform_result v s out ≡ perform (operation.Three op) v i s
  unfolding perform
  three_performed op e = ap (perform_result v s) e

  pub two_performed : (op : Two) → out ≡ result_two op s.second.cell.word → perform_result v s out ≡ perform (operation.Two op) v i s
  unfolding perform
  two_performed op e = ap (perform_result v s) e

  pub one_performed : (op : One) → out ≡ result_one op → perform_result v s out ≡ perform (operation.One op) v i s
  unfolding perform
  one_performed op e = ap (perform_result v s) e
