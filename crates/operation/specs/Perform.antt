-- What an instruction decides once its operands are found, full or empty as they must be, and unmasked: checks 7 and 8, and what is written.
use Rattle.std.specs.Prelude.{ℕ, ◌+◌, ◌*◌, ◌/◌, ◌%◌, ◌^◌, Bool, cond, not, ◌&&◌, eqb, Option, Some, None, Result, Ok, Err}
use Rattle.word.specs.Fields.{ci_of, ri_of, utm_of, pc_of, psw_of, next_of}
use Rattle.word.specs.Tests.{holds_of}
use Rattle.word.specs.Parts.{extracted, placed}
use Rattle.word.specs.declared.Instruction.{Instruction}
use Rattle.word.specs.declared.Outcome.{Outcome}
use Rattle.word.specs.declared.Part.{Part}
use Rattle.window.specs.declared.Cell.{Cell}
use Rattle.window.specs.Windows.{byte_place}
use Rattle.window.specs.Memories.{cell, empty_data, full_data}
use Rattle.operand.specs.Access.{source_left, destination_left}
use Rattle.operation.specs.declared.Trap.{Trap}
use Rattle.operation.specs.declared.Operation.{Operation}
use Rattle.operation.specs.declared.Operation.TheVariants as operation
use Rattle.operation.specs.declared.FoundOperand.{FoundOperand}
use Rattle.operation.specs.declared.FoundOperands.{FoundOperands}
use Rattle.operation.specs.declared.Trap.TheVariants as trap
use Rattle.operation.specs.declared.Wait.TheVariants.{Data, Create}
use Rattle.operation.specs.declared.Fate.{Fate}
use Rattle.operation.specs.declared.Fate.TheVariants.{Continues, Quits, Creates}
use Rattle.operation.specs.declared.Decision.{Decision}
use Rattle.operation.specs.declared.Decision.TheVariants.{Waits, Traps, Executes}
use Rattle.operation.specs.Roles.{sac_of, dac_of}
use Rattle.operation.specs.Results.{quality0, result_three, result_two, result_one}
use Rattle.operation.specs.Specified.{specified_part}
use Rattle.operation.specs.Environment.{Environment}

-- the operands by their names: D or S0 stands in the first field, S1 in the second, S2 in the third
abbrev pub field_d : FoundOperands → FoundOperand
field_d s = s.first

abbrev pub word_s0 : FoundOperands → ℕ
word_s0 s = s.first.cell.word

abbrev pub word_s1 : FoundOperands → ℕ
word_s1 s = s.second.cell.word

abbrev pub word_s2 : FoundOperands → ℕ
word_s2 s = s.third.cell.word

abbrev pub tag_s2 : FoundOperands → ℕ
tag_s2 s = s.third.cell.tag

-- what a field is left with as a source
unfoldable pub left_of : FoundOperand → Option (ℕ × Cell)
left_of s = source_left s.role s.access s.operand s.cell

-- sources are set empty first, then the destination is written
unfoldable pub executed : FoundOperands → (destination datum : Option (ℕ × Cell)) → Fate → Decision
executed s destination datum fate =
    Executes (record { first = left_of s.first; second = left_of s.second; third = left_of s.third; destination = destination; datum = datum; fate = fate })

-- D gets a result
unfoldable pub result_in : FoundOperand → Outcome → Option (ℕ × Cell)
result_in s r = destination_left s.access s.operand r.word r.quality

-- an operation that ends with PC + 1
unfoldable pub perform_result : Environment → FoundOperands → Outcome → Decision
perform_result v s r = executed s (result_in (field_d s) r) None (Continues (next_of v.psw))

-- test C on S2 and the running PSW
unfoldable pub test_of : Environment → FoundOperands → (c : ℕ) → Bool
test_of v s c = holds_of c (word_s2 s) (tag_s2 s) v.psw

-- B: PC = P, then CI, RI, UTM and PC each get S1's field added
unfoldable pub branched : (psw p s1 : ℕ) → ℕ
branched psw p s1 = psw_of (ci_of psw + ci_of s1) (ri_of psw + ri_of s1) (utm_of psw + utm_of s1) (p + pc_of s1)

unfoldable pub perform_branch : Environment → FoundOperands → (c p : ℕ) → Decision
perform_branch v s c p =
    executed s None None (Continues (cond (test_of v s c) (branched v.psw p (word_s1 s)) (next_of v.psw)))

-- CALL: D gets the PSW with PC + 1, whatever the test says; on a true test PC comes from S1
unfoldable pub called : (psw s1 : ℕ) → ℕ
called psw s1 = psw_of (ci_of psw) (ri_of psw) (utm_of psw) (pc_of s1)

unfoldable pub perform_call : Environment → FoundOperands → (c : ℕ) → Decision
perform_call v s c =
    executed s (result_in (field_d s) (quality0 (next_of v.psw))) None
    (Continues (cond (test_of v s c) (called v.psw (word_s1 s)) (next_of v.psw)))

-- CREATE: the creator's PSW at PC + 1, where ACT bits 8, 4, 2, 1 take CI, RI, UTM, PC from S1
abbrev pub taken : (act bit : ℕ) → (field creator : ℕ) → ℕ
taken act bit field creator = cond (eqb (act / bit % 2) 1) field creator

unfoldable pub created : (act psw s1 : ℕ) → ℕ
created act psw s1 =
    psw_of (taken act 8 (ci_of s1) (ci_of psw)) (taken act 4 (ri_of s1) (ri_of psw)) (taken act 2 (utm_of s1) (utm_of psw)) (taken act 1 (pc_of s1) (pc_of psw + 1))

-- check 8: a true CREATE with the create fault flag up
unfoldable pub create_waits : (holds : Bool) → (flag : ℕ) → Bool
create_waits holds flag = holds && not (eqb flag 0)

-- on a true test a process joins
unfoldable pub create_fate : (holds : Bool) → (act psw s1 : ℕ) → Fate
create_fate holds act psw s1 = cond holds (Creates (next_of psw) (created act psw s1)) (Continues (next_of psw))

unfoldable pub perform_create : Environment → FoundOperands → (c act : ℕ) → Decision
perform_create v s c act =
    cond (create_waits (test_of v s c) v.flag) (Waits Create)
    (executed s None None (create_fate (test_of v s c) act v.psw (word_s1 s)))

-- QT: on a true test the process leaves
unfoldable pub perform_quit : Environment → FoundOperands → (c : ℕ) → Decision
perform_quit v s c = executed s None None (cond (test_of v s c) Quits (Continues (next_of v.psw)))

-- the byte address: the low 32 bits of S1, for the X forms plus S2 modulo 2^32
unfoldable pub indirect_address : FoundOperands → ℕ
indirect_address s = word_s1 s % 2 ^ 32

unfoldable pub indexed_address : FoundOperands → ℕ
indexed_address s = (word_s1 s + word_s2 s) % 2 ^ 32

-- the data state of a load is unmet: SAC 1 and 2 wait until full
unfoldable pub load_waits : (low state : ℕ) → Bool
load_waits low state = not (eqb (sac_of low) 0) && eqb state empty_data

-- the data word that a load leaves: SAC 2 sets it empty
unfoldable pub load_leaves : (low a word : ℕ) → Option (ℕ × Cell)
load_leaves low a word = cond (eqb (sac_of low) 2) (Some (a, cell empty_data word)) None

-- the load of a part of the data word k at the real word address a
unfoldable pub load_part : (psw : ℕ) → FoundOperands → (low a : ℕ) → Part → (k : Cell) → Decision
load_part psw s low a part k =
    cond (load_waits low k.tag) (Waits Data)
    (executed s (result_in (field_d s) (quality0 (extracted part k.word))) (load_leaves low a k.word) (Continues (next_of psw)))

-- the data state of a store is unmet: DAC 2 waits until empty
unfoldable pub store_waits : (low state : ℕ) → Bool
store_waits low state = eqb (dac_of low) 2 && not (eqb state empty_data)

-- the store of a word's low bits into a part of the data word k; a store leaves full
unfoldable pub store_part : (psw : ℕ) → FoundOperands → (low word a : ℕ) → Part → (k : Cell) → Decision
store_part psw s low word a part k =
    cond (store_waits low k.tag) (Waits Data)
    (executed s None (Some (a, cell full_data (placed part word k.word))) (Continues (next_of psw)))

-- the part of the data word at the real word address a; where none is specified, 12
unfoldable pub part_reach : (a : ℕ) → Option Part → Result (ℕ × Part) Trap
part_reach a (Some part) = Ok (a, part)
part_reach a None = Err trap.IllegalInstruction

-- check 7 of the byte address e, by its place: a protection violation is 14; then the part that its low three bits specify
unfoldable pub data_reach : (low e : ℕ) → Option ℕ → Result (ℕ × Part) Trap
data_reach low e (Some a) = part_reach (a / 8) (specified_part low e)
data_reach low e None = Err trap.ProtectionViolation

unfoldable pub load_from : Environment → FoundOperands → (low : ℕ) → Result (ℕ × Part) Trap → Decision
load_from v s low (Ok (a, part)) = load_part v.psw s low a part (v.datum a)
load_from v s low (Err k) = Traps k v.psw

unfoldable pub perform_load : Environment → FoundOperands → (low e : ℕ) → Decision
perform_load v s low e = load_from v s low (data_reach low e (byte_place v.row e))

unfoldable pub store_to : Environment → FoundOperands → (low word : ℕ) → Result (ℕ × Part) Trap → Decision
store_to v s low word (Ok (a, part)) = store_part v.psw s low word a part (v.datum a)
store_to v s low word (Err k) = Traps k v.psw

unfoldable pub perform_store : Environment → FoundOperands → (low word e : ℕ) → Decision
perform_store v s low word e = store_to v s low word (data_reach low e (byte_place v.row e))

-- what each operation does with D, S0, S1 and S2
unfoldable pub perform : Operation → Environment → Instruction → FoundOperands → Decision
perform operation.Nop v i s = executed s None None (Continues (next_of v.psw))
perform (operation.Three op) v i s = perform_result v s (result_three op (word_s1 s) (word_s2 s))
perform (operation.Two op) v i s = perform_result v s (result_two op (word_s1 s))
perform (operation.One op) v i s = perform_result v s (result_one op)
perform (operation.Branch c p) v i s = perform_branch v s c (p * 2 ^ 16 + i.first)
perform (operation.Call c) v i s = perform_call v s c
perform (operation.Create c act) v i s = perform_create v s c act
perform (operation.Quit c) v i s = perform_quit v s c
perform (operation.LoadIndirect low) v i s = perform_load v s low (indirect_address s)
perform (operation.LoadIndexed low) v i s = perform_load v s low (indexed_address s)
perform (operation.StoreIndirect low) v i s = perform_store v s low (word_s2 s) (indirect_address s)
perform (operation.StoreIndexed low) v i s = perform_store v s low (word_s0 s) (indexed_address s)
