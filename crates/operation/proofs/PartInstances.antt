-- The sixteen meanings of B and the low three address bits, by load and by store, and the order of check 7, as instances that compute.
use Rattle.std.proofs.Common.{Option, Some, None}
use Rattle.std.specs.Prelude.{ℕ, ◌+◌, ◌≡◌, refl, List, [], ◌∷◌, map}
use Rattle.window.specs.declared.Cell.{Cell}
use Rattle.window.specs.declared.Row.{Row}
use Rattle.window.specs.Memories.{memory, cell}
use Rattle.operation.specs.declared.Wait.TheVariants.{Data}
use Rattle.operation.specs.declared.Trap.TheVariants.{IllegalInstruction, ProtectionViolation}
use Rattle.operation.specs.declared.Fate.TheVariants.{Continues}
use Rattle.operation.specs.declared.Decision.{Decision}
use Rattle.operation.specs.declared.Decision.TheVariants.{Waits, Traps, Executes}
use Rattle.operation.specs.Environment.{environment_of}
use Rattle.operation.specs.Decide.{decide}
use Rattle.operation.proofs.Exclusions.{instruction_word}
use Rattle.operation.proofs.Laws.Opened.{opened}

-- registers 0 and 1, data words 0 to 31
unfoldable pub part_row : Row
part_row = record { task = 1; cb = 0; rb = 0; rl = 0; pb = 0; pl = 0; db = 0; dl = 0; kind = 255; psw = 0 }

-- the instruction w where constant 0 is the byte address e, constant 1 a word, and data word 0 has this state
unfoldable pub decide_at : (w e state : ℕ) → Decision
decide_at w e state =
    decide (environment_of part_row 0 0 (w ∷ []) (memory (0 ∷ 0 ∷ []) (e ∷ 0x1122334455667788 ∷ [])) (memory [] []) (memory (state ∷ []) (0x8192A3B4C5D6E7F8 ∷ [])))

-- LODI to register 0, with these low five code bits
unfoldable pub load_at : (low e state : ℕ) → Decision
load_at low e state = decide_at (instruction_word (0x6C00 + low) 0 0x4000 0) e state

-- STOI of the word
unfoldable pub store_at : (low e state : ℕ) → Decision
store_at low e state = decide_at (instruction_word (0xBC00 + low) 0 0x4000 0x4001) e state

-- the address bits in their order
unfoldable pub eight : List ℕ
eight = 0 ∷ 1 ∷ 2 ∷ 3 ∷ 4 ∷ 5 ∷ 6 ∷ 7 ∷ []

-- register 0 gets the word with quality 0; data word 0 gets the word and is left full
abbrev pub writes : (destination datum : Option (ℕ × Cell)) → Decision
writes destination datum = Executes (record { first = None; second = None; third = None; destination = destination; datum = datum; fate = Continues 1 })

abbrev pub loads : (word : ℕ) → Decision
loads word = writes (Some (0, cell 0 word)) None

abbrev pub stores : (word : ℕ) → Decision
stores word = writes None (Some (0, cell 1 word))

abbrev pub illegal : Decision
illegal = Traps IllegalInstruction 0

pub record PartTrials : Type 0 where
  -- B = 0: the word, quarter 0, the left half, quarter 1, none, quarter 2, the right half, quarter 3
  pub loaded : map (λ e. load_at 0 e 1) eight
      ≡ loads 0x8192A3B4C5D6E7F8 ∷ loads 0x8192 ∷ loads 0x8192A3B4 ∷ loads 0xA3B4 ∷ illegal ∷ loads 0xC5D6 ∷ loads 0xC5D6E7F8 ∷ loads 0xE7F8 ∷ []
  pub stored : map (λ e. store_at 0 e 1) eight
      ≡ stores 0x1122334455667788 ∷ stores 0x7788A3B4C5D6E7F8 ∷ stores 0x55667788C5D6E7F8 ∷ stores 0x81927788C5D6E7F8
      ∷ illegal ∷ stores 0x8192A3B47788E7F8 ∷ stores 0x8192A3B455667788 ∷ stores 0x8192A3B4C5D67788 ∷ []
  -- B = 1: the bytes from the left
  pub bytes_loaded : map (λ e. load_at 16 e 1) eight
      ≡ loads 0x81 ∷ loads 0x92 ∷ loads 0xA3 ∷ loads 0xB4 ∷ loads 0xC5 ∷ loads 0xD6 ∷ loads 0xE7 ∷ loads 0xF8 ∷ []
  pub bytes_stored : map (λ e. store_at 16 e 1) eight
      ≡ stores 0x8892A3B4C5D6E7F8 ∷ stores 0x8188A3B4C5D6E7F8 ∷ stores 0x819288B4C5D6E7F8 ∷ stores 0x8192A388C5D6E7F8
      ∷ stores 0x8192A3B488D6E7F8 ∷ stores 0x8192A3B4C588E7F8 ∷ stores 0x8192A3B4C5D688F8 ∷ stores 0x8192A3B4C5D6E788 ∷ []
  -- 14 on the byte address, then 12, then the data state, which is that of the whole word
  pub outside : load_at 0 0x104 1 ≡ Traps ProtectionViolation 0
  pub unmet : load_at 4 4 0 ≡ illegal
  pub waits : load_at 4 1 0 ≡ Waits Data
  -- SAC 2 of a part empties the whole word, and its bits stay
  pub emptied : load_at 8 1 1 ≡ writes (Some (0, cell 0 0x8192)) (Some (0, cell 0 0x8192A3B4C5D6E7F8))
  -- a part stored in an empty word leaves it full
  pub filled : store_at 18 7 0 ≡ stores 0x8192A3B4C5D6E788

pub part_trials : PartTrials
unfolding opened instruction_word part_row decide_at load_at store_at eight
part_trials = record {
  loaded = refl;
  stored = refl;
  bytes_loaded = refl;
  bytes_stored = refl;
  outside = refl;
  unmet = refl;
  waits = refl;
  emptied = refl;
  filled = refl;
}
