-- What is performed for a code, an operation and an instruction that are told in two ways.
use Rattle.std.specs.Prelude.{ℕ, ◌≡◌, List, get_or, Option, Some, None}
use Rattle.std.proofs.Math.Path.{refl, sym}
use Rattle.std.proofs.Common.{ap, ◌∙◌}
use Rattle.word.specs.Fields.{pc_of, instruction_of}
use Rattle.word.specs.declared.Instruction.{Instruction}
use Rattle.window.specs.declared.Row.{Row}
use Rattle.window.specs.Windows.{place_in, program_window}
use Rattle.window.specs.Code.Spans.{Span, place_below}
use Rattle.window.proofs.Laws.Spans.{place_below_lem}
use Rattle.window.specs.Memories.{Memory}
use Rattle.operation.specs.declared.Roles.{Roles}
use Rattle.operation.specs.declared.Operation.{Operation}
use Rattle.operation.specs.declared.Code.{Code}
use Rattle.operation.specs.declared.Code.TheVariants.{Listed}
use Rattle.operation.specs.declared.Trap.{Trap}
use Rattle.operation.specs.declared.Trap.TheVariants as trap
use Rattle.operation.specs.declared.Course.{Course}
use Rattle.operation.specs.declared.Course.TheVariants as go
use Rattle.operation.specs.declared.Decision.TheVariants.{Traps}
use Rattle.operation.specs.Codes.{code_of}
use Rattle.operation.specs.Roles.{roles_of}
use Rattle.operation.specs.Environment.{Environment, environment_of}
use Rattle.operation.specs.Decide.{decide_listed, decide_code, decide_fetched, decide}
use Rattle.operation.proofs.Laws.Found.{under, as_code, as_listed, fetched, fetches}
use Rattle.step.specs.Code.Performs.{trap_course, Performs}
use Rattle.step.proofs.Laws.Performs.{performs_along, performs_traps}

module _ (row : Row) (v : Environment) (i : Instruction) (pt fresh : ℕ) (r : Course) (psws psws' : List ℕ) (m m' n n' : Memory) where
  -- a code
  pub code_told : (k l : Code) → k ≡ l → Performs row (decide_code l v i) pt fresh r psws psws' m m' n n'
      → Performs row (decide_code k v i) pt fresh r psws psws' m m' n n'
  code_told k l e p = performs_along row _ _ pt fresh r psws psws' m m' n n' (as_code k l v i e) p

  -- an operation under its roles
  pub listed_told : (o p : Operation) (s : Roles) → o ≡ p → roles_of p ≡ s → Performs row (decide_listed s p v i) pt fresh r psws psws' m m' n n'
      → Performs row (decide_code (Listed o) v i) pt fresh r psws psws' m m' n n'
  listed_told o p s e f q = performs_along row _ _ pt fresh r psws psws' m m' n n' (under s p v i f ∙ as_listed o p v i e) q

-- a code that traps whatever its fields are
pub code_traps : (row : Row) (v : Environment) (i : Instruction) (pt fresh : ℕ) (psws : List ℕ) (m n : Memory) (k l : Code) (t : Trap) (r : Course) → k ≡ l
    → decide_code l v i ≡ Traps t v.psw → r ≡ trap_course t → v.psw ≡ get_or psws pt 0 → Performs row (decide_code k v i) pt fresh r psws psws m m n n
code_traps row v i pt fresh psws m n k l t r e d f own =
    code_told row v i pt fresh r psws psws m m n n k l e
    (performs_along row _ _ pt fresh r psws psws m m n n (sym d) (performs_traps row pt fresh psws m n t v.psw r f own))

-- ---- the instruction at PC
module _ (row : Row) (psw flag : ℕ) (program : List ℕ) (constants m n : Memory) (base end pc : ℕ) (s : Span (program_window row) base end) (q : pc ≡ pc_of psw)
    (pt fresh : ℕ) (psws : List ℕ) where
  at_pc : (p x : Option ℕ) → p ≡ place_below base end pc → p ≡ x → place_in (program_window row) (pc_of psw) ≡ x
  at_pc p x e f = sym (place_below_lem (program_window row) base end s (pc_of psw)) ∙ ap (place_below base end) (sym q) ∙ sym e ∙ f

  pub outside : (p : Option ℕ) → p ≡ place_below base end pc → p ≡ None → psw ≡ get_or psws pt 0
      → Performs row (decide (environment_of row psw flag program constants m n)) pt fresh go.ProtectionViolation psws psws m m n n
  unfolding decide decide_fetched environment_of trap_course
  outside p e f own =
      performs_along row _ _ pt fresh go.ProtectionViolation psws psws m m n n (rw (at_pc p None e f))
      (performs_traps row pt fresh psws m n trap.ProtectionViolation psw go.ProtectionViolation refl own)

  pub fetches_told : (p : Option ℕ) (a w : ℕ) (i : Instruction) (k : Code) → p ≡ place_below base end pc → p ≡ Some a → w ≡ get_or program a 0 → i ≡ instruction_of w → k ≡ code_of i.code
      → (r : Course) (psws' : List ℕ) (m' n' : Memory)
      → Performs row (decide_code k (environment_of row psw flag program constants m n) i) pt fresh r psws psws' m m' n n'
      → Performs row (decide (environment_of row psw flag program constants m n)) pt fresh r psws psws' m m' n n'
  unfolding environment_of
  fetches_told p a w i k e f g h j r psws' m' n' x =
      performs_along row _ _ pt fresh r psws psws' m m' n n'
      (fetches _ a w i k (at_pc p (Some a) e f) (fetched row (pc_of psw) a (at_pc p (Some a) e f) program ∙ sym g) h j) x
