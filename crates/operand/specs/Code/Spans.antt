-- Operands as code looks them up: by CB doubled, the first register of the task and the end of its registers. Laws source_below_lem and
-- destination_below_lem (Laws/Spans) say that these are the lookups of the row.
use Rattle.std.specs.Prelude.{ℕ, ◌+◌, ◌*◌, ◌%◌, ◌≡◌, cond, List, eqb, set, Option, Some, None}
use Rattle.window.specs.declared.Row.{Row}
use Rattle.window.specs.Windows.{register_window}
use Rattle.window.specs.Code.Spans.{Span, place_below}
use Rattle.operand.specs.declared.Operand.{Operand}
use Rattle.operand.specs.declared.Operand.TheVariants.{Register, Constant, Absent}
use Rattle.operand.specs.Field.{constant_of, access_of, effective_of, register_lookup}

pub record Spans (row : Row) (cb base end : ℕ) : Type 0 where
  pub constants : cb ≡ row.cb * 2
  pub registers : Span (register_window row) base end

unfoldable pub source_below : (cb base end psw f : ℕ) → Option Operand
source_below cb base end psw f =
    cond (constant_of f) (Some (Constant ((cb + effective_of psw f) % 8192)))
    (register_lookup (place_below base end (effective_of psw f)))

unfoldable pub destination_below : (base end psw f : ℕ) → Option Operand
destination_below base end psw f = cond (constant_of f) None (register_lookup (place_below base end (effective_of psw f)))

-- the address of an operand
unfoldable pub number_in : Operand → ℕ
number_in (Register a) = a
number_in (Constant a) = a
number_in Absent = 0

-- the tags once a source at a, with this tag before the step, is let go: set empty under code 2
unfoldable pub released : (f a tag : ℕ) → List ℕ → List ℕ
released f a tag l = cond (eqb (access_of f) 2) (set l a (tag % 8 + 8)) l
