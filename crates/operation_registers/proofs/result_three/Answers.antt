use mathlib.Core.Path.{ap, ◌∙◌}
use Rattle.operation.specs.Results.{quality0, result_three}
use Rattle.operation_registers.proofs.result_three.Goals as goal

pub returns-in-Eor : goal.returns-in-Eor
unfolding result_three
returns-in-Eor c = simp c.in-Eor.is (c.plain_result.ensures ∙ ap quality0 c.eor.ensures)

pub returns-in-Eqv : goal.returns-in-Eqv
unfolding result_three
returns-in-Eqv c = simp c.in-Eqv.is (c.plain_result-in-Eqv.ensures ∙ ap quality0 c.eqv.ensures)

pub returns-in-Nand : goal.returns-in-Nand
unfolding result_three
returns-in-Nand c = simp c.in-Nand.is (c.plain_result-in-Nand.ensures ∙ ap quality0 c.nand.ensures)

pub returns-in-Nor : goal.returns-in-Nor
unfolding result_three
returns-in-Nor c = simp c.in-Nor.is (c.plain_result-in-Nor.ensures ∙ ap quality0 c.nor.ensures)

pub returns-in-Or : goal.returns-in-Or
unfolding result_three
returns-in-Or c = simp c.in-Or.is (c.plain_result-in-Or.ensures ∙ ap quality0 c.or.ensures)

pub returns-in-Bitclr : goal.returns-in-Bitclr
unfolding result_three
returns-in-Bitclr c = simp c.in-Bitclr.is (c.plain_result-in-Bitclr.ensures ∙ ap quality0 c.bitclr.ensures)

pub returns-in-Bitset : goal.returns-in-Bitset
unfolding result_three
returns-in-Bitset c = simp c.in-Bitset.is (c.plain_result-in-Bitset.ensures ∙ ap quality0 c.bitset.ensures)

pub returns-in-Add : goal.returns-in-Add
unfolding result_three
returns-in-Add c = simp c.in-Add.is c.add.ensures

pub returns-in-Sub : goal.returns-in-Sub
unfolding result_three
returns-in-Sub c = simp c.in-Sub.is c.sub.ensures

pub returns-in-Mul : goal.returns-in-Mul
unfolding result_three
returns-in-Mul c = simp c.in-Mul.is c.mul.ensures
