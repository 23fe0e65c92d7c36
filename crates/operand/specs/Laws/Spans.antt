-- Lookups by numbers are the lookups of the row.
use Rattle.std.specs.Prelude.{ℕ, ◌/◌, ◌%◌, ◌^◌, ◌≡◌, refl, Bool, true, false, cond, Option, Some, None}
use Rattle.std.proofs.Common.{arith, sym, ap, ◌∙◌, subst, true≢false}
use Rattle.window.specs.declared.Row.{Row}
use Rattle.window.specs.Windows.{inside, register_window, place_in, constant_place}
use Rattle.window.proofs.Laws.Spans.{place_below_lem}
use Rattle.operand.specs.declared.Role.TheVariants.{Destination, Source}
use Rattle.operand.specs.declared.Operand.{Operand}
use Rattle.operand.specs.declared.Operand.TheVariants.{Register, Constant}
use Rattle.operand.specs.Field.{constant_of, access_of, effective_of, register_lookup, source_lookup, destination_lookup, lookup_of}
use Rattle.operand.specs.Code.Spans.{Spans, source_below, destination_below, number_in}
use Rattle.operand.specs.Laws.Operands.{Within, lookup_within}

module _ (row : Row) (cb base end : ℕ) (s : Spans row cb base end) (psw f : ℕ) where
  source_below_lem : source_below cb base end psw f ≡ lookup_of Source row psw f
  unfolding source_below lookup_of source_lookup constant_place
  source_below_lem = rw (place_below_lem (register_window row) base end s.registers (effective_of psw f), s.constants)

  destination_below_lem : destination_below base end psw f ≡ lookup_of Destination row psw f
  unfolding destination_below lookup_of destination_lookup
  destination_below_lem = rw (place_below_lem (register_window row) base end s.registers (effective_of psw f))

  -- what a lookup by numbers answers is what the row's lookup answers
  pub source_told : (l m : Option Operand) → l ≡ source_below cb base end psw f → l ≡ m → lookup_of Source row psw f ≡ m
  source_told l m e g = sym source_below_lem ∙ sym e ∙ g

  pub destination_told : (l m : Option Operand) → l ≡ destination_below base end psw f → l ≡ m → lookup_of Destination row psw f ≡ m
  destination_told l m e g = sym destination_below_lem ∙ sym e ∙ g

-- a register's lookup finds a register
register_of : (p : Option ℕ) (o : Operand) → register_lookup p ≡ Some o → o ≡ Register (number_in o)
unfolding register_lookup number_in
register_of (Some a) o e = let z : Register a ≡ o = cc in subst (λ (x : Operand). x ≡ Register (number_in x)) z refl
register_of None o e = let z : true ≡ false = cc in absurd (true≢false z)

-- a destination is a register in the window
pub destination_register : (row : Row) (psw f : ℕ) (o : Operand) → lookup_of Destination row psw f ≡ Some o → o ≡ Register (number_in o)
unfolding lookup_of destination_lookup
destination_register row psw f o = go (constant_of f)
  where
    go : (t : Bool) → cond t None (register_lookup (place_in (register_window row) (effective_of psw f))) ≡ Some o → o ≡ Register (number_in o)
    go true e = let z : true ≡ false = cc in absurd (true≢false z)
    go false e = register_of _ o e

pub destination_inside : (row : Row) (psw f : ℕ) (o : Operand) (d : ℕ) → lookup_of Destination row psw f ≡ Some o → o ≡ Register d → inside (register_window row) d ≡ true
destination_inside row psw f o d e k = subst (λ (l : Option Operand). Within row l) (e ∙ ap Some k) (lookup_within Destination row psw f)

-- what a source is by its field
pub source_constant : (row : Row) (psw f : ℕ) (o : Operand) → lookup_of Source row psw f ≡ Some o → constant_of f ≡ true → o ≡ Constant (number_in o)
unfolding lookup_of source_lookup number_in
source_constant row psw f o e z = go (rw z at e)
  where
    go : Some (Constant (constant_place row (effective_of psw f))) ≡ Some o → o ≡ Constant (number_in o)
    go e = let z : Constant (constant_place row (effective_of psw f)) ≡ o = cc in subst (λ (x : Operand). x ≡ Constant (number_in x)) z refl

pub source_plain : (row : Row) (psw f : ℕ) (o : Operand) → lookup_of Source row psw f ≡ Some o → constant_of f ≡ false → o ≡ Register (number_in o)
unfolding lookup_of source_lookup
source_plain row psw f o e z = register_of _ o (rw z at e)

-- a source under an access code is no constant, and so a register in the window
pub source_register : (row : Row) (psw f : ℕ) (o : Operand) → lookup_of Source row psw f ≡ Some o → access_of f ≡ 2 → o ≡ Register (number_in o)
unfolding lookup_of source_lookup access_of
source_register row psw f o = go (constant_of f)
  where
    go : (t : Bool) → cond t (Some (Constant (constant_place row (effective_of psw f)))) (register_lookup (place_in (register_window row) (effective_of psw f))) ≡ Some o
        → cond t 0 (f / 2 ^ 11 % 2 ^ 3) ≡ 2 → o ≡ Register (number_in o)
    go true e q = absurd (omega arith)
    go false e q = register_of _ o e

pub source_inside : (row : Row) (psw f : ℕ) (o : Operand) (a : ℕ) → lookup_of Source row psw f ≡ Some o → o ≡ Register a → inside (register_window row) a ≡ true
source_inside row psw f o a e k = subst (λ (l : Option Operand). Within row l) (e ∙ ap Some k) (lookup_within Source row psw f)
