-- Check 6 by the tag that code holds: of a constant the quality is read.
use Rattle.std.specs.Prelude.{ℕ, ◌-◌, ◌/◌, ◌%◌, ◌^◌, ◌≡◌, Bool, true, false, List, eqb}
use native.Mathlib.Omega.{arith}
use Rattle.std.proofs.Math.ListN.{get_or}
use Rattle.word.specs.Fields.{utm_of}
use Rattle.operand.specs.declared.Role.TheVariants.{Source}
use Rattle.operand.specs.Field.{constant_of}
use Rattle.operand.specs.Access.{masked_of}
use Rattle.operand.specs.Code.Cells.{source_tag}

module _ (psw f a x : ℕ) (q : List ℕ) (utm : ℕ) (u : utm ≡ utm_of psw) (m : Bool) where
  pub constant_masked : (t : ℕ) → constant_of f ≡ true → t ≡ get_or q a 0 → m ≡ eqb (utm / 2 ^ (7 - t % 8) % 2) 1 → m ≡ masked_of Source psw (source_tag f a x q)
  unfolding masked_of source_tag
  constant_masked t k e h = let z : get_or q a 0 % 8 % 8 ≡ get_or q a 0 % 8 = omega arith in rw (k, z, ← e, ← u) h

  pub register_masked : constant_of f ≡ false → m ≡ eqb (utm / 2 ^ (7 - x % 8) % 2) 1 → m ≡ masked_of Source psw (source_tag f a x q)
  unfolding masked_of source_tag
  register_masked k h = rw (k, ← u) h
