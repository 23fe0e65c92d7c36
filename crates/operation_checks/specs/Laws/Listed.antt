-- An operation that acts at once: it is illegal, an operand is not found, or all are. For any roles; the lookup of a field that is no operand is refl.
use Rattle.std.specs.Prelude.{ℕ, ◌≡◌, true, false, List, get_or, Some, None}
use Rattle.std.proofs.Math.Path.{refl}
use Rattle.std.proofs.Common.{◌∙◌}
use Rattle.word.specs.declared.Instruction.{Instruction}
use Rattle.window.specs.declared.Row.{Row}
use Rattle.window.specs.Memories.{Memory}
use Rattle.operand.specs.declared.Operand.{Operand}
use Rattle.operand.specs.Field.{lookup_of}
use Rattle.operation.specs.declared.Roles.{Roles}
use Rattle.operation.specs.declared.Operation.{Operation}
use Rattle.operation.specs.declared.Trap.TheVariants as trap
use Rattle.operation.specs.declared.Course.{Course}
use Rattle.operation.specs.declared.Course.TheVariants as go
use Rattle.operation.specs.declared.Decision.TheVariants as decision
use Rattle.operation.specs.Roles.{illegal_instruction}
use Rattle.operation.specs.Environment.{environment_of}
use Rattle.operation.specs.Code.FoundOperands.{all_found_at}
use Rattle.operation.specs.Decide.{decide_found, decide_listed}
use Rattle.operation.proofs.Laws.Found.{refused, no_first, no_second, no_third, all_found}
use Rattle.step.specs.Code.Performs.{trap_course, Performs}
use Rattle.step.proofs.Laws.Performs.{performs_along, performs_traps}

module _ (r : Roles) (op : Operation) (row : Row) (psw flag : ℕ) (program : List ℕ) (constants m n : Memory) (i : Instruction) (pt fresh : ℕ) (psws : List ℕ) where
  pub listed_illegal : psw ≡ get_or psws pt 0 → illegal_instruction r op i ≡ true
      → Performs row (decide_listed r op (environment_of row psw flag program constants m n) i) pt fresh go.IllegalInstruction psws psws m m n n
  unfolding trap_course
  listed_illegal own e =
      performs_along row _ _ pt fresh go.IllegalInstruction psws psws m m n n (refused r op row psw flag program constants m n i e)
      (performs_traps row pt fresh psws m n trap.IllegalInstruction psw go.IllegalInstruction refl own)

  module _ (legal : illegal_instruction r op i ≡ false) where
    violated : psw ≡ get_or psws pt 0 → decision.Traps trap.ProtectionViolation psw ≡ decide_listed r op (environment_of row psw flag program constants m n) i
        → Performs row (decide_listed r op (environment_of row psw flag program constants m n) i) pt fresh go.ProtectionViolation psws psws m m n n
    unfolding trap_course
    violated own e =
        performs_along row _ _ pt fresh go.ProtectionViolation psws psws m m n n e
        (performs_traps row pt fresh psws m n trap.ProtectionViolation psw go.ProtectionViolation refl own)

    pub first_violated : psw ≡ get_or psws pt 0 → lookup_of r.first row psw i.first ≡ None
        → Performs row (decide_listed r op (environment_of row psw flag program constants m n) i) pt fresh go.ProtectionViolation psws psws m m n n
    first_violated own e = violated own (no_first r op row psw flag program constants m n i legal e)

    pub second_violated : psw ≡ get_or psws pt 0 → (a : Operand) → lookup_of r.first row psw i.first ≡ Some a
        → lookup_of r.second row psw i.second ≡ None
        → Performs row (decide_listed r op (environment_of row psw flag program constants m n) i) pt fresh go.ProtectionViolation psws psws m m n n
    second_violated own a e f = violated own (no_second r op row psw flag program constants m n i legal a e f)

    pub third_violated : psw ≡ get_or psws pt 0 → (a b : Operand) → lookup_of r.first row psw i.first ≡ Some a
        → lookup_of r.second row psw i.second ≡ Some b → lookup_of r.third row psw i.third ≡ None
        → Performs row (decide_listed r op (environment_of row psw flag program constants m n) i) pt fresh go.ProtectionViolation psws psws m m n n
    third_violated own a b e f g = violated own (no_third r op row psw flag program constants m n i legal a b e f g)

    -- the fields as they were told
    fields_told : (f1 f2 f3 : ℕ) (a b c : Operand) → f1 ≡ i.first → f2 ≡ i.second → f3 ≡ i.third
        → decide_found op (environment_of row psw flag program constants m n) i (all_found_at m constants r f1 f2 f3 a b c)
        ≡ decide_found op (environment_of row psw flag program constants m n) i (all_found_at m constants r i.first i.second i.third a b c)
    fields_told f1 f2 f3 a b c d e f = rw (d, e, f)

    pub listed_found : (f1 f2 f3 : ℕ) → f1 ≡ i.first → f2 ≡ i.second → f3 ≡ i.third → (a b c : Operand) → lookup_of r.first row psw i.first ≡ Some a
        → lookup_of r.second row psw i.second ≡ Some b → lookup_of r.third row psw i.third ≡ Some c → (t : Course) (psws' : List ℕ) (m' n' : Memory)
        → Performs row (decide_found op (environment_of row psw flag program constants m n) i (all_found_at m constants r f1 f2 f3 a b c)) pt fresh t psws psws' m m' n n'
        → Performs row (decide_listed r op (environment_of row psw flag program constants m n) i) pt fresh t psws psws' m m' n n'
    listed_found f1 f2 f3 x y z a b c e f g t psws' m' n' p =
        performs_along row _ _ pt fresh t psws psws' m m' n n' (fields_told f1 f2 f3 a b c x y z ∙ all_found r op row psw flag program constants m n i legal a b c e f g) p
