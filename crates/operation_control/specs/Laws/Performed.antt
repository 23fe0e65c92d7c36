-- What NOP, B, CALL, CREATE, QT and SVC perform, by the tests that code makes.
use Rattle.std.specs.Prelude.{ℕ, ◌+◌, ◌*◌, ◌^◌, ◌≡◌, Bool, true, false, cond, ◌||◌, List, get_or, set, None}
use Rattle.std.proofs.Math.Path.{refl, ap}
use Rattle.std.proofs.Common.{sym, ap₂, ◌∙◌}
use Rattle.word.specs.Fields.{next_of}
use Rattle.word.specs.Tests.{holds_of}
use Rattle.word.specs.declared.Instruction.{Instruction}
use Rattle.window.specs.declared.Row.{Row}
use Rattle.window.specs.Memories.{Memory}
use Rattle.operand.specs.declared.Role.TheVariants.{Unused}
use Rattle.operand.specs.Field.{illegal_field}
use Rattle.operation.specs.declared.Code.TheVariants.{Svc}
use Rattle.operation.specs.declared.Operation.TheVariants as operation
use Rattle.operation.specs.declared.FoundOperands.{FoundOperands}
use Rattle.operation.specs.declared.Fate.TheVariants.{Continues, Quits, Creates}
use Rattle.operation.specs.declared.Wait.TheVariants as wait
use Rattle.operation.specs.declared.Decision.TheVariants.{Waits}
use Rattle.operation.specs.declared.Trap.TheVariants as trap
use Rattle.operation.specs.declared.Course.TheVariants as go
use Rattle.operation.specs.Roles.{svc_roles, illegal_fields}
use Rattle.operation.specs.Environment.{Environment}
use Rattle.operation.specs.Code.FoundOperands.{instruction}
use Rattle.operation.specs.Decide.{decide_code}
use Rattle.operation.specs.Results.{quality0}
use Rattle.operation.specs.Perform.{executed, result_in, test_of, branched, called, created, create_waits, create_fate, perform_branch, perform_call, perform_create, perform_quit, perform}
use Rattle.step.specs.Code.Parts.{fate_psws}
use Rattle.step.specs.Code.Performs.{trap_course, Performs}
use Rattle.step.proofs.Laws.Performs.{performs_along, performs_traps, performs_stores}

module _ (v : Environment) (i : Instruction) (s : FoundOperands) (psw : ℕ) (of : v.psw ≡ psw) where
  pub nop_performed : executed s None None (Continues (next_of psw)) ≡ perform operation.Nop v i s
  unfolding perform
  nop_performed = rw of

  pub branch_performed : (c p first y : ℕ) → i.first ≡ first → holds_of c s.third.cell.word y psw ≡ holds_of c s.third.cell.word s.third.cell.tag psw
      → executed s None None
      (Continues (cond (holds_of c s.third.cell.word y psw) (branched psw (p * 2 ^ 16 + first) s.second.cell.word) (next_of psw)))
      ≡ perform (operation.Branch c p) v i s
  unfolding perform perform_branch test_of
  branch_performed c p first y e h = rw (of, e, h)

  pub call_performed : (c w y : ℕ) → w ≡ next_of psw → holds_of c s.third.cell.word y psw ≡ holds_of c s.third.cell.word s.third.cell.tag psw
      → executed s (result_in s.first (quality0 w)) None
      (Continues (cond (holds_of c s.third.cell.word y psw) (called psw s.second.cell.word) (next_of psw)))
      ≡ perform (operation.Call c) v i s
  unfolding perform perform_call test_of
  call_performed c w y e h = rw (of, e, h)

  module _ (c : ℕ) (t : Bool) (h : t ≡ holds_of c s.third.cell.word s.third.cell.tag psw) where
    pub quits : t ≡ true → executed s None None Quits ≡ perform (operation.Quit c) v i s
    unfolding perform perform_quit test_of
    quits e = rw (of, ← h, e)

    pub stays : t ≡ false → executed s None None (Continues (next_of psw)) ≡ perform (operation.Quit c) v i s
    unfolding perform perform_quit test_of
    stays e = rw (of, ← h, e)

    module _ (act flag : ℕ) (up : v.flag ≡ flag) (w : Bool) (k : w ≡ create_waits t flag) where
      pub create_waits_lem : w ≡ true → Waits wait.Create ≡ perform (operation.Create c act) v i s
      unfolding perform perform_create test_of
      create_waits_lem e = rw (of, up, ← h, ← k, e)

      pub creates : w ≡ false → t ≡ true
          → executed s None None (Creates (next_of psw) (created act psw s.second.cell.word)) ≡ perform (operation.Create c act) v i s
      unfolding perform perform_create test_of create_fate
      creates e f = rw (of, up, ← h, ← k, e, f)

      pub creates_none : w ≡ false → t ≡ false → executed s None None (Continues (next_of psw)) ≡ perform (operation.Create c act) v i s
      unfolding perform perform_create test_of create_fate
      creates_none e f = rw (of, up, ← h, ← k, e, f)

-- the PSWs of creator and created process, told in parts
pub created_psws_lem : (pt fresh p q new made : ℕ) (psws psws' : List ℕ) → psws' ≡ set (set psws pt p) fresh new → p ≡ q → new ≡ made
    → psws' ≡ fate_psws pt fresh (Creates q made) psws
unfolding fate_psws
created_psws_lem pt fresh p q new made psws psws' e f g = e ∙ ap₂ {C = List ℕ} (λ x y. set (set psws pt x) fresh y) f g

-- SVC: check 2 of its fields, then it traps with the PC past it
module _ (v : Environment) (code first second third psw : ℕ) (of : v.psw ≡ psw) where
  pub svc_illegal : illegal_field Unused second || illegal_field Unused third ≡ true
      → (row : Row) (pt fresh : ℕ) (psws : List ℕ) (m n : Memory) → psw ≡ get_or psws pt 0
      → Performs row (decide_code Svc v (instruction code first second third)) pt fresh go.IllegalInstruction psws psws m m n n
  unfolding decide_code illegal_fields svc_roles illegal_field trap_course
  svc_illegal e row pt fresh psws m n own =
      performs_along row _ _ pt fresh go.IllegalInstruction psws psws m m n n (rw e)
      (performs_traps row pt fresh psws m n trap.IllegalInstruction v.psw go.IllegalInstruction refl (of ∙ own))

  pub svc_traps : illegal_field Unused second || illegal_field Unused third ≡ false
      → (row : Row) (pt fresh : ℕ) (psws : List ℕ) (m n : Memory) (next : ℕ) (psws' : List ℕ) → psws' ≡ set psws pt next → next ≡ next_of psw
      → Performs row (decide_code Svc v (instruction code first second third)) pt fresh go.SupervisorCall psws psws' m m n n
  unfolding decide_code illegal_fields svc_roles illegal_field trap_course
  svc_traps e row pt fresh psws m n next psws' f g =
      performs_along row _ _ pt fresh go.SupervisorCall psws psws' m m n n (rw e)
      (performs_stores row pt fresh psws m n trap.SupervisorCall (next_of v.psw) go.SupervisorCall psws' refl (f ∙ ap (set psws pt) (g ∙ ap next_of (sym of))))

-- ACT 1
pub created_one : (act psw s1 r : ℕ) → r ≡ called psw s1 → act ≡ 1 → r ≡ created act psw s1
unfolding called created
created_one act psw s1 r e f = rw f e
