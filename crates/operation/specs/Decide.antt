-- The checks of a step in their order, on the state before the step. A definition stands below those that it uses, so check 1 stands last.
--
-- check                                          definition                                ending
-- 1 PC outside the program window                decide_fetched                             trap 14
-- 2 the code; AC, SAC, DAC, unused fields        decide_code; Roles.illegal_instruction      trap 16, 1C, 12; 12
-- 3 SVC                                          decide_code                                trap 1A
-- 4 a constant as destination, outside a window  decide_lookups                             trap 14
-- 5 an access test unmet                         operands_wait                              waved
-- 6 UTM bit q set, q the quality of a source     operands_masked                            trap 1E
-- 7 the data address; the data state             Perform.data_reach; load_waits, store_waits  trap 14, 12; waved
-- 8 a true CREATE with the flag up               Perform.create_waits                       waved
use Rattle.std.specs.Prelude.{ℕ, Bool, cond, ◌||◌, Option, Some, None}
use Rattle.word.specs.Fields.{pc_of, next_of, instruction_of}
use Rattle.word.specs.declared.Instruction.{Instruction}
use Rattle.window.specs.Windows.{place_in, program_window}
use Rattle.operand.specs.declared.Role.{Role}
use Rattle.operand.specs.declared.Operand.{Operand}
use Rattle.operand.specs.Field.{access_of, lookup_of}
use Rattle.operand.specs.Access.{waits_of, masked_of}
use Rattle.operation.specs.declared.Operation.{Operation}
use Rattle.operation.specs.declared.Roles.{Roles}
use Rattle.operation.specs.declared.Code.{Code}
use Rattle.operation.specs.declared.Code.TheVariants.{Privileged, Simulated, Svc, Listed, Unlisted}
use Rattle.operation.specs.declared.FoundOperand.{FoundOperand}
use Rattle.operation.specs.declared.FoundOperands.{FoundOperands}
use Rattle.operation.specs.declared.Trap.TheVariants as trap
use Rattle.operation.specs.declared.Wait.TheVariants.{Access}
use Rattle.operation.specs.declared.Decision.{Decision}
use Rattle.operation.specs.declared.Decision.TheVariants.{Waits, Traps}
use Rattle.operation.specs.Codes.{code_of}
use Rattle.operation.specs.Roles.{roles_of, svc_roles, illegal_fields, illegal_instruction}
use Rattle.operation.specs.Environment.{Environment}
use Rattle.operation.specs.Perform.{perform}

-- a field with the operand that it names
unfoldable pub found_operand : Environment → Role → (f : ℕ) → Operand → FoundOperand
found_operand v role f o = record { role = role; access = access_of f; operand = o; cell = v.cell o }

-- 5. an access test unmet: waved
unfoldable pub operand_waits : FoundOperand → Bool
operand_waits s = waits_of s.role s.access s.cell.tag

unfoldable pub operands_wait : FoundOperands → Bool
operands_wait s = operand_waits s.first || (operand_waits s.second || operand_waits s.third)

-- 6. UTM bit q set, q the quality of a source: 1E
unfoldable pub operand_masked : (psw : ℕ) → FoundOperand → Bool
operand_masked psw s = masked_of s.role psw s.cell.tag

unfoldable pub operands_masked : (psw : ℕ) → FoundOperands → Bool
operands_masked psw s = operand_masked psw s.first || (operand_masked psw s.second || operand_masked psw s.third)

-- checks 5 and 6; then 7, 8 and the execution
unfoldable pub decide_found : Operation → Environment → Instruction → FoundOperands → Decision
decide_found op v i s =
    cond (operands_wait s) (Waits Access)
    (cond (operands_masked v.psw s) (Traps trap.DataException v.psw)
    (perform op v i s))

-- the operands that the three fields name, the fields having the roles r
unfoldable pub found_operands : Roles → Environment → Instruction → (a b c : Operand) → FoundOperands
found_operands r v i a b c = record {
  first = found_operand v r.first i.first a;
  second = found_operand v r.second i.second b;
  third = found_operand v r.third i.third c;
}

-- 4. a constant as destination, or any operand outside its window: 14. Of each, its lookup answers a violation
unfoldable pub decide_lookups : Roles → Operation → Environment → Instruction → (first second third : Option Operand) → Decision
decide_lookups r op v i (Some a) (Some b) (Some c) = decide_found op v i (found_operands r v i a b c)
decide_lookups r op v i (Some a) (Some b) None = Traps trap.ProtectionViolation v.psw
decide_lookups r op v i (Some a) None third = Traps trap.ProtectionViolation v.psw
decide_lookups r op v i None second third = Traps trap.ProtectionViolation v.psw

-- where a field of the instruction leads
abbrev pub field_lookup : Environment → Role → (f : ℕ) → Option Operand
field_lookup v role f = lookup_of role v.row v.psw f

unfoldable pub decide_operands : Roles → Operation → Environment → Instruction → Decision
decide_operands r op v i =
    decide_lookups r op v i
    (field_lookup v r.first i.first)
    (field_lookup v r.second i.second)
    (field_lookup v r.third i.third)

-- an operation whose fields have the roles r
unfoldable pub decide_listed : Roles → Operation → Environment → Instruction → Decision
decide_listed r op v i = cond (illegal_instruction r op i) (Traps trap.IllegalInstruction v.psw) (decide_operands r op v i)

-- 2. a code on a page marked privileged: 16; a code that is simulated: 1C; any other code not listed, illegal AC, SAC or DAC, or a
-- nonzero unused field: 12. 3. SVC: 1A, with PC past the instruction
unfoldable pub decide_code : Code → Environment → Instruction → Decision
decide_code Privileged v i = Traps trap.PrivilegedInstruction v.psw
decide_code Simulated v i = Traps trap.SimulatedInstruction v.psw
decide_code Unlisted v i = Traps trap.IllegalInstruction v.psw
decide_code Svc v i = cond (illegal_fields svc_roles i) (Traps trap.IllegalInstruction v.psw) (Traps trap.SupervisorCall (next_of v.psw))
decide_code (Listed op) v i = decide_listed (roles_of op) op v i

-- 1. PC outside the program window: 14
unfoldable pub decide_fetched : Environment → Option ℕ → Decision
decide_fetched v (Some a) = let i : Instruction = instruction_of (v.program_word a) in decide_code (code_of i.code) v i
decide_fetched v None = Traps trap.ProtectionViolation v.psw

unfoldable pub decide : Environment → Decision
decide v = decide_fetched v (place_in (program_window v.row) (pc_of v.psw))
