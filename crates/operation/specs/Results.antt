-- The result of each operation on registers, word and quality, of the words of its sources.
use Rattle.std.specs.Prelude.{ℕ, ◌-◌, ◌^◌}
use Rattle.word.specs.Vectors.{not_of, eor_of, eqv_of, nand_of, nor_of, or_of}
use Rattle.word.specs.Bits.{bitset_of, bitclr_of, encode0_of, encode1_of}
use Rattle.word.specs.Integers.{add_of, sub_of, mul_of}
use Rattle.word.specs.declared.Outcome.{Outcome}
use Rattle.operation.specs.declared.Three.{Three}
use Rattle.operation.specs.declared.Three.TheVariants.{Eor, Eqv, Nand, Nor, Or, Bitclr, Bitset, Add, Sub, Mul}
use Rattle.operation.specs.declared.Two.{Two}
use Rattle.operation.specs.declared.Two.TheVariants.{Mov, Not, Encode0, Encode1, Inc, Dec}
use Rattle.operation.specs.declared.One.{One}
use Rattle.operation.specs.declared.One.TheVariants.{Clr, Ones}

-- a result with quality 0
abbrev pub quality0 : ℕ → Outcome
quality0 w = record { word = w; quality = 0 }

-- D, S1, S2
unfoldable pub result_three : Three → (s1 s2 : ℕ) → Outcome
result_three Eor a b = quality0 (eor_of a b)
result_three Eqv a b = quality0 (eqv_of a b)
result_three Nand a b = quality0 (nand_of a b)
result_three Nor a b = quality0 (nor_of a b)
result_three Or a b = quality0 (or_of a b)
result_three Bitclr a b = quality0 (bitclr_of a b)
result_three Bitset a b = quality0 (bitset_of a b)
result_three Add a b = add_of a b
result_three Sub a b = sub_of a b
result_three Mul a b = mul_of a b

-- D, S1
unfoldable pub result_two : Two → (s1 : ℕ) → Outcome
result_two Mov a = quality0 a
result_two Not a = quality0 (not_of a)
result_two Encode0 a = quality0 (encode0_of a)
result_two Encode1 a = quality0 (encode1_of a)
result_two Inc a = add_of a 1
result_two Dec a = sub_of a 1

-- D
unfoldable pub result_one : One → Outcome
result_one Clr = quality0 0
result_one Ones = quality0 (2 ^ 64 - 1)
