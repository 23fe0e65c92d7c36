-- Each operation with an instance that computes, which its nearest wrong neighbour fails: which operands and which fields it takes, what it writes.
use Rattle.std.proofs.Common.{Option, Some, None}
use Rattle.std.specs.Prelude.{ℕ, ◌+◌, ◌-◌, ◌*◌, ◌^◌, ◌≡◌, refl, List, [], ◌∷◌, ◌++◌, map, replicate}
use Rattle.word.specs.Fields.{psw_of}
use Rattle.window.specs.declared.Cell.{Cell}
use Rattle.window.specs.Memories.{memory, cell}
use Rattle.operation.specs.declared.Fate.{Fate}
use Rattle.operation.specs.declared.Fate.TheVariants.{Continues, Quits, Creates}
use Rattle.operation.specs.declared.Decision.{Decision}
use Rattle.operation.specs.declared.Decision.TheVariants.{Executes}
use Rattle.operation.specs.Environment.{environment_of}
use Rattle.operation.specs.Decide.{decide}
use Rattle.operation.proofs.Exclusions.{exclusion_row, instruction_word}
use Rattle.operation.proofs.Laws.Opened.{opened}

-- constants: 0 a PSW with CI 3, RI 5, UTM hex F8 and PC 7; 1 to 10: 12, 10, 9 with quality 5, 8, 16, 125, -8, the largest, -1 and the smallest number;
-- zero from 11 on. Register 6 is empty, of quality 2, with word 20; register 7 full, of quality 3, with word 30. Data words 32 on: 100, 101, 102
-- and 103 full, then 104 empty
unfoldable pub decide_under : (psw flag w : ℕ) → Decision
decide_under psw flag w =
    decide (environment_of exclusion_row psw flag (w ∷ [])
    (memory (0 ∷ 0 ∷ 0 ∷ 5 ∷ replicate 7 0) (psw_of 3 5 0xF8 7 ∷ 12 ∷ 10 ∷ 9 ∷ 8 ∷ 16 ∷ 125 ∷ (2 ^ 64 - 8) ∷ (2 ^ 63 - 1) ∷ (2 ^ 64 - 1) ∷ 2 ^ 63 ∷ []))
    (memory (replicate 6 0 ++ (10 ∷ 3 ∷ [])) (replicate 6 0 ++ (20 ∷ 30 ∷ [])))
    (memory (replicate 36 1) (replicate 32 0 ++ (100 ∷ 101 ∷ 102 ∷ 103 ∷ 104 ∷ []))))

unfoldable pub decide_on : (psw w : ℕ) → Decision
decide_on psw w = decide_under psw 0 w

-- the running PSW: CI 1, RI 1, UTM 8, PC 0; and at PC + 1
abbrev pub running : ℕ
running = psw_of 1 1 0x08 0

abbrev pub next : ℕ
next = psw_of 1 1 0x08 1

-- no source is set empty
abbrev pub does : (destination datum : Option (ℕ × Cell)) → Fate → Decision
does destination datum fate = Executes (record { first = None; second = None; third = None; destination = destination; datum = datum; fate = fate })

-- the instruction with these sources and D register 6
unfoldable pub result_of : (code s1 s2 : ℕ) → Decision
result_of code s1 s2 = decide_on 0 (instruction_word code 0 s1 s2)

-- D gets a word with a quality
abbrev pub gets : (quality word : ℕ) → Decision
gets quality word = does (Some (6, cell quality word)) None (Continues 1)

-- the data word at this address gets a word and is left full
abbrev pub stores : (address word : ℕ) → Decision
stores address word = does None (Some (address, cell 1 word)) (Continues 1)

-- B to 9 by each test in the table's order, on S2; S1 is zero
unfoldable pub branches : (psw s2 : ℕ) → List Decision
branches psw s2 = map (λ c. decide_on psw (instruction_word (0x3800 + c * 16) 9 0x400B s2)) (0x0 ∷ 0x1 ∷ 0x2 ∷ 0x3 ∷ 0x4 ∷ 0x5 ∷ 0x6 ∷ 0x7 ∷ 0x8 ∷ 0x9 ∷ 0xA ∷ 0xB ∷ 0xC ∷ 0xD ∷ 0xE ∷ 0xF ∷ [])

-- where each of them goes: 9 where the test holds, else PC + 1
unfoldable pub goes_to : (ci ri : ℕ) → (pcs : List ℕ) → List Decision
goes_to ci ri pcs = map (λ pc. does None None (Continues (psw_of ci ri 0 pc))) pcs

-- CREATE always by ACT, the PSW of constant 0 as S1
unfoldable pub create_by : (act : ℕ) → Decision
create_by act = decide_on running (instruction_word (0x3970 + act) 0 0x4000 0x4001)

abbrev pub creates : (new : ℕ) → Decision
creates new = does None None (Creates next new)

-- QT by this test, its S2 read under access code 2, which sets register 7 empty
unfoldable pub quit_by : (test : ℕ) → Decision
quit_by test = decide_on 0 (instruction_word (0x1900 + test * 16) 0 0 0x1001)

abbrev pub empties_s2 : Fate → Decision
empties_s2 fate = Executes (record { first = None; second = None; third = Some (7, cell 11 30); destination = None; datum = None; fate = fate })

pub record OperationTrials : Type 0 where
  pub nop : decide_on running 0 ≡ does None None (Continues next)
  -- the result has quality 0, that of S1 being 3
  pub mov : result_of 0x611F 0x0001 0 ≡ gets 0 30
  pub clr : result_of 0x411C 0 0 ≡ gets 0 0
  pub ones : result_of 0x4113 0 0 ≡ gets 0 (2 ^ 64 - 1)
  pub inverted : result_of 0x6110 0x4001 0 ≡ gets 0 (2 ^ 64 - 1 - 12)
  -- of 12 and 10
  pub eor : result_of 0x7119 0x4001 0x4002 ≡ gets 0 6
  pub eqv : result_of 0x7116 0x4001 0x4002 ≡ gets 0 (2 ^ 64 - 1 - 6)
  pub nand : result_of 0x7111 0x4001 0x4002 ≡ gets 0 (2 ^ 64 - 1 - 8)
  pub nor : result_of 0x7114 0x4001 0x4002 ≡ gets 0 (2 ^ 64 - 1 - 14)
  pub or : result_of 0x711B 0x4001 0x4002 ≡ gets 0 14
  -- bit 125 is bit 61 from the left, the 4 of 12, which 10 has not
  pub bitclr : result_of 0x7728 0x4001 0x4006 ≡ gets 0 8
  pub bitset : result_of 0x7720 0x4002 0x4006 ≡ gets 0 14
  -- the leftmost zero of -8 and of -1, the leftmost one of 12 and of 0
  pub encode0 : result_of 0x6718 0x4007 0 ≡ gets 0 61
  pub no_zero : result_of 0x6718 0x4009 0 ≡ gets 0 (2 ^ 63)
  pub encode1 : result_of 0x6710 0x4001 0 ≡ gets 0 60
  pub no_one : result_of 0x6710 0x400B 0 ≡ gets 0 (2 ^ 63)
  -- 12 + 10; 12 - 1 with a carry; the largest + 12, and the smallest twice with a carry too, do not fit
  pub add : result_of 0x7126 0x4001 0x4002 ≡ gets 0 22
  pub add_carry : result_of 0x7126 0x4001 0x4009 ≡ gets 1 11
  pub add_large : result_of 0x7126 0x4008 0x4001 ≡ gets 4 (2 ^ 63 + 11)
  pub add_small : result_of 0x7126 0x400A 0x400A ≡ gets 4 0
  -- 10 - 12 borrows, 12 - 12 doesn't; the smallest - 12, and the largest + 8 with a borrow too, do not fit
  pub sub : result_of 0x7139 0x4002 0x4001 ≡ gets 0 (2 ^ 64 - 2)
  pub sub_equal : result_of 0x7139 0x4001 0x4001 ≡ gets 1 0
  pub sub_small : result_of 0x7139 0x400A 0x4001 ≡ gets 4 (2 ^ 63 - 12)
  pub sub_large : result_of 0x7139 0x4008 0x4007 ≡ gets 4 (2 ^ 63 + 7)
  pub inc : result_of 0x6130 0x4001 0 ≡ gets 0 13
  pub inc_carry : result_of 0x6130 0x4009 0 ≡ gets 1 0
  pub inc_large : result_of 0x6130 0x4008 0 ≡ gets 4 (2 ^ 63)
  pub dec : result_of 0x612F 0x4001 0 ≡ gets 1 11
  pub dec_borrow : result_of 0x612F 0x400B 0 ≡ gets 0 (2 ^ 64 - 1)
  pub dec_small : result_of 0x612F 0x400A 0 ≡ gets 4 (2 ^ 63 - 1)
  -- 12 times 10, -8 times 10, -8 times -1; the smallest times -1 does not fit
  pub mul : result_of 0x7320 0x4001 0x4002 ≡ gets 0 120
  pub mul_minus : result_of 0x7320 0x4007 0x4002 ≡ gets 0 (2 ^ 64 - 80)
  pub mul_signs : result_of 0x7320 0x4007 0x4009 ≡ gets 0 8
  pub mul_large : result_of 0x7320 0x400A 0x4009 ≡ gets 4 (2 ^ 63)
  -- the sixteen tests: of 12, of 0 with CI zero, of -8, which has 61 ones, with RI zero, and of the empty register
  pub tests_above : branches (psw_of 1 1 0 0) 0x4001 ≡ goes_to 1 1 (1 ∷ 1 ∷ 1 ∷ 1 ∷ 9 ∷ 9 ∷ 9 ∷ 9 ∷ 1 ∷ 9 ∷ 1 ∷ 9 ∷ 1 ∷ 9 ∷ 9 ∷ 1 ∷ [])
  pub tests_zero : branches (psw_of 0 1 0 0) 0x400B ≡ goes_to 0 1 (1 ∷ 1 ∷ 9 ∷ 9 ∷ 1 ∷ 1 ∷ 9 ∷ 9 ∷ 1 ∷ 9 ∷ 1 ∷ 9 ∷ 9 ∷ 1 ∷ 9 ∷ 1 ∷ [])
  pub tests_below : branches (psw_of 1 0 0 0) 0x4007 ≡ goes_to 1 0 (1 ∷ 9 ∷ 1 ∷ 9 ∷ 1 ∷ 9 ∷ 1 ∷ 9 ∷ 1 ∷ 9 ∷ 9 ∷ 1 ∷ 1 ∷ 9 ∷ 1 ∷ 9 ∷ [])
  pub tests_empty : branches (psw_of 1 1 0 0) 0x0000 ≡ goes_to 1 1 (1 ∷ 1 ∷ 1 ∷ 1 ∷ 9 ∷ 9 ∷ 9 ∷ 9 ∷ 9 ∷ 1 ∷ 1 ∷ 9 ∷ 1 ∷ 9 ∷ 9 ∷ 1 ∷ [])
  -- B always to 9: each field of S1 is added, modulo its width; the left digit of the address stands in the code
  pub branch : decide_on running (instruction_word 0x3870 9 0x4000 0x4001) ≡ does None None (Continues (psw_of 4 6 0 16))
  pub branch_modulo : decide_on (psw_of 8190 2045 0x18 0) (instruction_word 0x387F 0xFFFF 0x4000 0x4001) ≡ does None None (Continues (psw_of 1 2 0x10 6))
  -- CALL always and never: D gets PC + 1, PC comes from S1
  pub call : decide_on running (instruction_word 0x7971 0 0x4000 0x4001) ≡ does (Some (6, cell 0 next)) None (Continues (psw_of 1 1 0x08 7))
  pub call_never : decide_on running (instruction_word 0x7901 0 0x4000 0x4001) ≡ does (Some (6, cell 0 next)) None (Continues next)
  -- CREATE always: ACT bits 8, 4, 2, 1 take CI, RI, UTM, PC; never
  pub create_none : create_by 0 ≡ creates next
  pub create_ci : create_by 8 ≡ creates (psw_of 3 1 0x08 1)
  pub create_ri : create_by 4 ≡ creates (psw_of 1 5 0x08 1)
  pub create_utm : create_by 2 ≡ creates (psw_of 1 1 0xF8 1)
  pub create_pc : create_by 1 ≡ creates (psw_of 1 1 0x08 7)
  pub create_never : decide_on running (instruction_word 0x390F 0 0x4000 0x4001) ≡ does None None (Continues next)
  -- QT always and never: S2 is set empty in both
  pub quit : quit_by 7 ≡ empties_s2 Quits
  pub quit_never : quit_by 0 ≡ empties_s2 (Continues 1)
  -- LODI from the low 32 bits of S1, LODX from those of S1 + S2: 8 + 16, and -8 + 16
  pub lodi : result_of 0x6C00 0x400A 0 ≡ gets 0 100
  pub lodx : result_of 0x7C00 0x4004 0x4005 ≡ gets 0 103
  pub lodx_modulo : result_of 0x7C00 0x4007 0x4005 ≡ gets 0 101
  -- STOI stores S2 at S1, STOX S0 at S1 + S2
  pub stoi : result_of 0xBC00 0x4004 0x4001 ≡ stores 33 12
  pub stox : decide_on 0 (instruction_word 0xFC00 0x4001 0x4004 0x4005) ≡ stores 35 12

pub operation_trials : OperationTrials
unfolding opened exclusion_row instruction_word decide_under decide_on result_of branches goes_to create_by quit_by
operation_trials = record {
  nop = refl;
  mov = refl;
  clr = refl;
  ones = refl;
  inverted = refl;
  eor = refl;
  eqv = refl;
  nand = refl;
  nor = refl;
  or = refl;
  bitclr = refl;
  bitset = refl;
  encode0 = refl;
  no_zero = refl;
  encode1 = refl;
  no_one = refl;
  add = refl;
  add_carry = refl;
  add_large = refl;
  add_small = refl;
  sub = refl;
  sub_equal = refl;
  sub_small = refl;
  sub_large = refl;
  inc = refl;
  inc_carry = refl;
  inc_large = refl;
  dec = refl;
  dec_borrow = refl;
  dec_small = refl;
  mul = refl;
  mul_minus = refl;
  mul_signs = refl;
  mul_large = refl;
  tests_above = refl;
  tests_zero = refl;
  tests_below = refl;
  tests_empty = refl;
  branch = refl;
  branch_modulo = refl;
  call = refl;
  call_never = refl;
  create_none = refl;
  create_ci = refl;
  create_ri = refl;
  create_utm = refl;
  create_pc = refl;
  create_never = refl;
  quit = refl;
  quit_never = refl;
  lodi = refl;
  lodx = refl;
  lodx_modulo = refl;
  stoi = refl;
  stox = refl;
}
