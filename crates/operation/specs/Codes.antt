-- What each 16-bit code stands for.
use Rattle.std.specs.Prelude.{ℕ, ◌/◌, ◌%◌, cond, List, [], ◌∷◌, map, eqb, ltb}
use Rattle.operation.specs.declared.Three.TheVariants.{Eor, Eqv, Nand, Nor, Or, Bitclr, Bitset, Add, Sub, Mul}
use Rattle.operation.specs.declared.Two.TheVariants.{Mov, Not, Encode0, Encode1, Inc, Dec}
use Rattle.operation.specs.declared.One.TheVariants.{Clr, Ones}
use Rattle.operation.specs.declared.Operation.{Operation}
use Rattle.operation.specs.declared.Operation.TheVariants.{Nop, Three, Two, One, Branch, Call, Create, Quit, LoadIndirect, LoadIndexed, StoreIndirect, StoreIndexed}
use Rattle.operation.specs.declared.Code.{Code}
use Rattle.operation.specs.declared.Code.TheVariants.{Privileged, Simulated, Svc, Listed, Unlisted}

-- a key and what it stands for
pub record Line : Type 0 where
  pub key : ℕ
  pub meaning : Code

abbrev pub line : ℕ → Code → Line
line k x = record { key = k; meaning = x }

-- the meaning of the first line with this key, else d
unfoldable pub find : List Line → ℕ → Code → Code
find [] k d = d
find (l ∷ ls) k d = cond (eqb k l.key) l.meaning (find ls k d)

-- the codes on chapter 5 pages marked privileged
unfoldable pub privileged : List ℕ
privileged =
    0x0700 ∷ 0x3601 ∷ 0x3700 ∷ 0x3B7F ∷ 0x3C00 ∷ 0x4A00 ∷ 0x5700 ∷ 0x5800 ∷ 0x7600 ∷
    0x8700 ∷ 0x8701 ∷ 0x9900 ∷ 0x9901 ∷ 0x9902 ∷ 0x9903 ∷ 0xB700 ∷ 0xC900 ∷ 0xD700 ∷
    0xE10E ∷ 0xE11F ∷ 0xE705 ∷ 0xE706 ∷ 0xE707 ∷ 0xE97F ∷ 0xEC00 ∷ 0xF101 ∷ 0xF10D ∷ []

-- the codes that are left to software: FADD, FDIV, FIP, FIX
unfoldable pub simulated : List ℕ
simulated = 0x7200 ∷ 0x7F00 ∷ 0x610A ∷ 0x6108 ∷ []

-- the codes that stand for one operation, and SVC
unfoldable pub single_codes : List Line
single_codes =
    line 0x0000 (Listed Nop) ∷
    line 0x611F (Listed (Two Mov)) ∷
    line 0x411C (Listed (One Clr)) ∷
    line 0x4113 (Listed (One Ones)) ∷
    line 0x6110 (Listed (Two Not)) ∷
    line 0x7119 (Listed (Three Eor)) ∷
    line 0x7116 (Listed (Three Eqv)) ∷
    line 0x7111 (Listed (Three Nand)) ∷
    line 0x7114 (Listed (Three Nor)) ∷
    line 0x711B (Listed (Three Or)) ∷
    line 0x7728 (Listed (Three Bitclr)) ∷
    line 0x7720 (Listed (Three Bitset)) ∷
    line 0x6718 (Listed (Two Encode0)) ∷
    line 0x6710 (Listed (Two Encode1)) ∷
    line 0x7126 (Listed (Three Add)) ∷
    line 0x7139 (Listed (Three Sub)) ∷
    line 0x6130 (Listed (Two Inc)) ∷
    line 0x612F (Listed (Two Dec)) ∷
    line 0x7320 (Listed (Three Mul)) ∷
    line 0x0900 Svc ∷
    []

-- CALL 79 C 1, QT 19 C 0: the last digit is fixed
unfoldable pub call_of : ℕ → Code
call_of low = cond (eqb (low % 16) 1) (Listed (Call (low / 16))) Unlisted

unfoldable pub quit_of : ℕ → Code
quit_of low = cond (eqb (low % 16) 0) (Listed (Quit (low / 16))) Unlisted

-- the low five code bits are B, SAC, DAC; the bits C, N and R before them are zero
unfoldable pub data_code_of : Operation → ℕ → Code
data_code_of op low = cond (ltb low 32) (Listed op) Unlisted

-- the codes whose right eight bits, low, say more: B 38 C and the left digit of P, CREATE 39 C ACT, CALL, QT, LODI, LODX, STOI, STOX
unfoldable pub families : ℕ → List Line
families low =
    line 0x38 (Listed (Branch (low / 16) (low % 16))) ∷
    line 0x39 (Listed (Create (low / 16) (low % 16))) ∷
    line 0x79 (call_of low) ∷
    line 0x19 (quit_of low) ∷
    line 0x6C (data_code_of (LoadIndirect low) low) ∷
    line 0x7C (data_code_of (LoadIndexed low) low) ∷
    line 0xBC (data_code_of (StoreIndirect low) low) ∷
    line 0xFC (data_code_of (StoreIndexed low) low) ∷
    []

-- any other code is illegal
unfoldable pub family_of : ℕ → Code
family_of code = find (families (code % 256)) (code / 256) Unlisted

-- the meaning of a code that stands for itself, else d
unfoldable pub single_of : ℕ → Code → Code
single_of code d =
    find (map (λ k. line k Privileged) privileged) code
    (find (map (λ k. line k Simulated) simulated) code
    (find single_codes code d))

unfoldable pub code_of : ℕ → Code
code_of code = single_of code (family_of code)
