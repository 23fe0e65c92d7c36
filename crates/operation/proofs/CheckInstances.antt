-- Each check with instances that compute, at both sides of its boundary, and one for the order of each two: the machine of OperationInstances.
use Rattle.std.proofs.Common.{Some, None}
use Rattle.std.specs.Prelude.{ℕ, ◌+◌, ◌-◌, ◌*◌, ◌^◌, ◌≡◌, refl, List, [], ◌∷◌, map, replicate}
use Rattle.word.specs.Fields.{psw_of}
use Rattle.window.specs.declared.Row.{Row}
use Rattle.window.specs.Memories.{cell}
use Rattle.window.specs.Windows.{byte_place}
use Rattle.operation.specs.declared.Wait.TheVariants.{Access, Data, Create}
use Rattle.operation.specs.declared.Trap.TheVariants.{IllegalInstruction, ProtectionViolation, PrivilegedInstruction, SupervisorCall, SimulatedInstruction, DataException}
use Rattle.operation.specs.declared.Fate.TheVariants.{Continues}
use Rattle.operation.specs.declared.Decision.{Decision}
use Rattle.operation.specs.declared.Decision.TheVariants.{Waits, Traps, Executes}
use Rattle.operation.proofs.Exclusions.{exclusion_row, instruction_word}
use Rattle.operation.proofs.OperationInstances.{decide_under, decide_on, running, next, does, result_of, gets, stores}
use Rattle.operation.proofs.Laws.Opened.{opened}

-- each of these words under PSW 0, with all fields but the code zero in `codes`
unfoldable pub words : List ℕ → List Decision
words ws = map (λ w. decide_on 0 w) ws

unfoldable pub codes : List ℕ → List Decision
codes cs = map (λ code. decide_on 0 (instruction_word code 0 0 0)) cs

abbrev pub illegal : Decision
illegal = Traps IllegalInstruction 0

abbrev pub violation : Decision
violation = Traps ProtectionViolation 0

-- MOV to register 6 of a register under each access code; of 12 to a register under each. Register 6 has displacement 0 and is empty
unfoldable pub sources : (displacement : ℕ) → List Decision
sources d = map (λ access. decide_on 0 (instruction_word 0x611F 0 (access * 0x0800 + d) 0)) (0 ∷ 1 ∷ 2 ∷ 3 ∷ 4 ∷ 5 ∷ 6 ∷ 7 ∷ [])

unfoldable pub destinations : (displacement : ℕ) → List Decision
destinations d = map (λ access. decide_on 0 (instruction_word 0x611F (access * 0x0800 + d) 0x4001 0)) (0 ∷ 1 ∷ 2 ∷ 3 ∷ 4 ∷ 5 ∷ 6 ∷ 7 ∷ [])

-- register 6 or 7 gets a cell
abbrev pub puts : (register tag word : ℕ) → Decision
puts register tag word = does (Some (register, cell tag word)) None (Continues 1)

-- LODX and STOX of 12 at 8 + 16, the full data word 35, or at 16 + 16, the empty one 36, with B 0 and each SAC and DAC
unfoldable pub loads : (s1 : ℕ) → List Decision
loads s1 = map (λ low. result_of (0x7C00 + low) s1 0x4005) (0 ∷ 1 ∷ 2 ∷ 3 ∷ 4 ∷ 5 ∷ 6 ∷ 7 ∷ 8 ∷ 9 ∷ 10 ∷ 11 ∷ 12 ∷ 13 ∷ 14 ∷ 15 ∷ [])

unfoldable pub storings : (s1 : ℕ) → List Decision
storings s1 = map (λ low. decide_on 0 (instruction_word (0xFC00 + low) 0x4001 s1 0x4005)) (0 ∷ 1 ∷ 2 ∷ 3 ∷ 4 ∷ 5 ∷ 6 ∷ 7 ∷ 8 ∷ 9 ∷ 10 ∷ 11 ∷ 12 ∷ 13 ∷ 14 ∷ 15 ∷ [])

-- a data window of all addresses
unfoldable pub wide_row : Row
wide_row = record { task = 1; cb = 0; rb = 0; rl = 0; pb = 0; pl = 0; db = 0; dl = 2 ^ 24 - 1; kind = 255; psw = 0 }

pub record CheckTrials : Type 0 where
  -- 1: the last program word, and behind it
  pub fetched : decide_on 15 0 ≡ does None None (Continues 16)
  pub unfetched : decide_on 16 0 ≡ Traps ProtectionViolation 16
  -- 2: the privileged pages; what is left to software; codes beside those listed
  pub pages : codes (
      0x0700 ∷ 0x3601 ∷ 0x3700 ∷ 0x3B7F ∷ 0x3C00 ∷ 0x4A00 ∷ 0x5700 ∷ 0x5800 ∷ 0x7600 ∷ 0x8700 ∷ 0x8701 ∷ 0x9900 ∷ 0x9901 ∷ 0x9902 ∷ 0x9903 ∷ 0xB700 ∷ 0xC900 ∷ 0xD700
      ∷ 0xE10E ∷ 0xE11F ∷ 0xE705 ∷ 0xE706 ∷ 0xE707 ∷ 0xE97F ∷ 0xEC00 ∷ 0xF101 ∷ 0xF10D ∷ []) ≡ replicate 27 (Traps PrivilegedInstruction 0)
  pub simulated : codes (0x7200 ∷ 0x7F00 ∷ 0x610A ∷ 0x6108 ∷ []) ≡ replicate 4 (Traps SimulatedInstruction 0)
  pub unlisted : codes (0x0001 ∷ 0x0901 ∷ 0x1971 ∷ 0x611E ∷ 0x6C20 ∷ 0x7970 ∷ 0x7C20 ∷ 0xBC20 ∷ 0xFC20 ∷ 0xFFFF ∷ []) ≡ replicate 10 illegal
  -- an unused field that is not zero: of NOP, MOV, CLR, CREATE, QT, LODI, STOI, SVC
  pub unused : words (
      instruction_word 0x0000 1 0 0 ∷ instruction_word 0x0000 0 1 0 ∷ instruction_word 0x0000 0 0 1 ∷ instruction_word 0x611F 0 0x4001 1 ∷ instruction_word 0x411C 0 1 0
      ∷ instruction_word 0x411C 0 0 1 ∷ instruction_word 0x3970 1 0x4000 0x4001 ∷ instruction_word 0x1970 1 0 0x4001 ∷ instruction_word 0x1970 0 1 0x4001
      ∷ instruction_word 0x6C00 0 0x4004 1 ∷ instruction_word 0xBC00 1 0x4004 0x4001 ∷ instruction_word 0x0900 0 1 0 ∷ instruction_word 0x0900 0 0 1 ∷ []) ≡ replicate 13 illegal
  -- bit 2 of a constant's field
  pub constant : result_of 0x611F 0x6001 0 ≡ illegal
  -- 3: SVC stores the PC past the instruction; its first field is free
  pub svc : decide_on running (instruction_word 0x0900 0xFFFF 0 0) ≡ Traps SupervisorCall next
  -- 4: a constant as D; D, S1 and S2 past register 7
  pub outside : words (
      instruction_word 0x611F 0x4000 0x4001 0 ∷ instruction_word 0x7126 0x0002 0x4001 0x4001 ∷ instruction_word 0x7126 0 0x0002 0x4001
      ∷ instruction_word 0x7126 0 0x4001 0x0002 ∷ []) ≡ replicate 4 violation
  -- an indexed register and constant, under CI 3 and RI 1, as source and as D; under RI 2 past register 7
  pub indexed_register : decide_on (psw_of 3 1 0 0) (instruction_word 0x611F 0 0x8000 0) ≡ does (Some (6, cell 0 30)) None (Continues (psw_of 3 1 0 1))
  pub indexed_constant : decide_on (psw_of 3 1 0 0) (instruction_word 0x611F 0 0xC001 0) ≡ does (Some (6, cell 0 8)) None (Continues (psw_of 3 1 0 1))
  pub indexed_d : decide_on (psw_of 3 1 0 0) (instruction_word 0x611F 0x8000 0x4001 0) ≡ does (Some (7, cell 0 12)) None (Continues (psw_of 3 1 0 1))
  pub indexed_outside : decide_on (psw_of 3 2 0 0) (instruction_word 0x611F 0 0x8000 0) ≡ Traps ProtectionViolation (psw_of 3 2 0 0)
  -- 5, and what is left: an empty source, a full one, an empty destination, a full one under each access code
  pub empty_source : sources 0 ≡ gets 0 20 ∷ Waits Access ∷ Waits Access ∷ gets 0 20 ∷ replicate 4 illegal
  pub full_source : sources 1
      ≡ gets 0 30 ∷ gets 0 30
      ∷ Executes (record { first = None; second = Some (7, cell 11 30); third = None; destination = Some (6, cell 0 30); datum = None; fate = Continues 1 })
      ∷ Waits Access ∷ replicate 4 illegal
  pub empty_destination : destinations 0 ≡ puts 6 0 12 ∷ Waits Access ∷ puts 6 0 12 ∷ puts 6 8 12 ∷ replicate 4 illegal
  pub full_destination : destinations 1 ≡ puts 7 0 12 ∷ puts 7 0 12 ∷ Waits Access ∷ Waits Access ∷ replicate 4 illegal
  -- 6: the quality 3 of register 7 under UTM bit 3, as S1, S2 and S0, and as D; under all bits but 3
  pub masked_s1 : decide_on 0x10000000 (instruction_word 0x611F 0 0x0001 0) ≡ Traps DataException 0x10000000
  pub masked_s2 : decide_on 0x10000000 (instruction_word 0x7126 0 0x4001 0x0001) ≡ Traps DataException 0x10000000
  pub masked_s0 : decide_on 0x10000000 (instruction_word 0xFC00 0x0001 0x4004 0x4005) ≡ Traps DataException 0x10000000
  pub unmasked_d : decide_on 0x10000000 (instruction_word 0x611F 0x0001 0x4001 0) ≡ does (Some (7, cell 0 12)) None (Continues 0x10000001)
  pub unmasked : decide_on 0xEF000000 (instruction_word 0x611F 0 0x0001 0) ≡ does (Some (6, cell 0 30)) None (Continues 0xEF000001)
  -- 7: byte addresses below 2^31; SAC of a full data word and of an empty one, DAC of both (the parts stand in PartInstances)
  pub below : byte_place wide_row (2 ^ 31 - 1) ≡ Some (2 ^ 31 - 1)
  pub above : byte_place wide_row (2 ^ 31) ≡ None
  pub full_loaded : loads 0x4004
      ≡ gets 0 103 ∷ illegal ∷ illegal ∷ illegal ∷ gets 0 103 ∷ illegal ∷ illegal ∷ illegal
      ∷ does (Some (6, cell 0 103)) (Some (35, cell 0 103)) (Continues 1) ∷ replicate 7 illegal
  pub empty_loaded : loads 0x4005 ≡ gets 0 104 ∷ illegal ∷ illegal ∷ illegal ∷ Waits Data ∷ illegal ∷ illegal ∷ illegal ∷ Waits Data ∷ replicate 7 illegal
  pub full_stored : storings 0x4004 ≡ stores 35 12 ∷ illegal ∷ Waits Data ∷ replicate 13 illegal
  pub empty_stored : storings 0x4005 ≡ stores 36 12 ∷ illegal ∷ stores 36 12 ∷ replicate 13 illegal
  -- 8: CREATE with the create fault flag up, always and never
  pub create : decide_under running 1 (instruction_word 0x3970 0 0x4000 0x4001) ≡ Waits Create
  pub create_never : decide_under running 1 (instruction_word 0x3900 0 0x4000 0x4001) ≡ does None None (Continues next)
  -- 2 before 4: D past register 7, S1 under access code 4; 4 before 5: D waits, S2 past register 7
  pub legal_placed : decide_on 0 (instruction_word 0x611F 0x0002 0x2001 0) ≡ illegal
  pub placed_met : decide_on 0 (instruction_word 0x7126 0x0800 0x4001 0x0002) ≡ violation
  -- 5 before 6: D waits, S1 is masked; 6 before 7: constant 3 is masked, the address lies outside; 6 before 8: S2 is masked, the flag up
  pub met_unmasked : decide_on 0x10000000 (instruction_word 0x7126 0x0800 0x0001 0x4001) ≡ Waits Access
  pub unmasked_reached : decide_on 0x04000000 (instruction_word 0x7C00 0 0x4003 0x4008) ≡ Traps DataException 0x04000000
  pub unmasked_created : decide_under 0x10000000 1 (instruction_word 0x3970 0 0x4000 0x0001) ≡ Traps DataException 0x10000000

pub check_trials : CheckTrials
unfolding opened exclusion_row instruction_word decide_under decide_on result_of words codes sources destinations loads storings wide_row
check_trials = record {
  fetched = refl;
  unfetched = refl;
  pages = refl;
  simulated = refl;
  unlisted = refl;
  unused = refl;
  constant = refl;
  svc = refl;
  outside = refl;
  indexed_register = refl;
  indexed_constant = refl;
  indexed_d = refl;
  indexed_outside = refl;
  empty_source = refl;
  full_source = refl;
  empty_destination = refl;
  full_destination = refl;
  masked_s1 = refl;
  masked_s2 = refl;
  masked_s0 = refl;
  unmasked_d = refl;
  unmasked = refl;
  below = refl;
  above = refl;
  full_loaded = refl;
  empty_loaded = refl;
  full_stored = refl;
  empty_stored = refl;
  create = refl;
  create_never = refl;
  legal_placed = refl;
  placed_met = refl;
  met_unmasked = refl;
  unmasked_reached = refl;
  unmasked_created = refl;
}
