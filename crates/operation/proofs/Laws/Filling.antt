-- The widths of the parts that an address specifies, line by line.
use Rattle.std.specs.Prelude.{ℕ, zero, suc, ◌%◌, ◌≡◌, refl, true, false, eqb, get_or}
use Rattle.std.proofs.Common.{arith, subst, true≢false, Option, Some, None}
use Rattle.word.specs.declared.Part.{Part}
use Rattle.word.specs.Parts.{Fills}
use Rattle.word.proofs.Laws.Bools.{either}
use Rattle.operation.specs.Roles.{b_of}
use Rattle.operation.specs.Specified.{word_parts, specified_part}

-- a part that is told in two ways
same : (part other : Part) → Some part ≡ Some other → Fills part → Fills other
same part other q f = let z : part ≡ other = cc in subst Fills z f

none : (part : Part) → None ≡ Some part → Fills part
none part q = let z : true ≡ false = cc in absurd (true≢false z)

line : (n : ℕ) (part : Part) → get_or word_parts n None ≡ Some part → Fills part
unfolding word_parts
line zero part q = same _ part q (record { count = 1; divides = refl; inside = omega arith })
line (suc zero) part q = same _ part q (record { count = 4; divides = refl; inside = omega arith })
line (suc (suc zero)) part q = same _ part q (record { count = 2; divides = refl; inside = omega arith })
line (suc (suc (suc zero))) part q = same _ part q (record { count = 4; divides = refl; inside = omega arith })
line (suc (suc (suc (suc zero)))) part q = none part q
line (suc (suc (suc (suc (suc zero))))) part q = same _ part q (record { count = 4; divides = refl; inside = omega arith })
line (suc (suc (suc (suc (suc (suc zero)))))) part q = same _ part q (record { count = 2; divides = refl; inside = omega arith })
line (suc (suc (suc (suc (suc (suc (suc zero))))))) part q = same _ part q (record { count = 4; divides = refl; inside = omega arith })
line (suc (suc (suc (suc (suc (suc (suc (suc n)))))))) part q = none part q

pub fills : (low e : ℕ) (part : Part) → specified_part low e ≡ Some part → Fills part
unfolding specified_part
fills low e part =
    either (λ (r : Option Part). r ≡ Some part → Fills part) (eqb (b_of low) 1)
    (λ q. same _ part q (record { count = 8; divides = refl; inside = omega arith })) (line (e % 8) part)
