-- Check 6 and the tests of a constant of quality 5 and word 7, the only one, as instances that compute.
use Rattle.std.proofs.Common.{Some, None}
use Rattle.std.specs.Prelude.{ℕ, ◌+◌, ◌*◌, ◌≡◌, refl, [], ◌∷◌}
use Rattle.word.specs.Fields.{psw_of}
use Rattle.window.specs.Memories.{memory, cell}
use Rattle.operation.specs.declared.Trap.TheVariants.{DataException}
use Rattle.operation.specs.declared.Fate.TheVariants.{Continues}
use Rattle.operation.specs.declared.Decision.{Decision}
use Rattle.operation.specs.declared.Decision.TheVariants.{Traps, Executes}
use Rattle.operation.specs.Environment.{environment_of}
use Rattle.operation.specs.Decide.{decide}
use Rattle.operation.proofs.Exclusions.{exclusion_row, instruction_word}
use Rattle.operation.proofs.Laws.Opened.{opened}

-- the instruction at PC 0 under this UTM; every register is full with word 0
unfoldable pub under_utm : (utm w : ℕ) → Decision
under_utm utm w = decide (environment_of exclusion_row (psw_of 0 0 utm 0) 0 (w ∷ []) (memory (5 ∷ []) (7 ∷ [])) (memory [] []) (memory [] []))

-- MOV of the constant with this number to register 6
unfoldable pub mov_of : (constant : ℕ) → ℕ
mov_of constant = instruction_word 0x611F 0 (0x4000 + constant) 0

-- B to 9 by this test on the constant; S1 is zero
unfoldable pub branch_by : (test : ℕ) → ℕ
branch_by test = instruction_word (0x3800 + test * 16) 9 0x4001 0x4000

-- only the result: D gets this word with quality 0
abbrev pub moves : (word psw : ℕ) → Decision
moves word psw = Executes (record { first = None; second = None; third = None; destination = Some (6, cell 0 word); datum = None; fate = Continues psw })

abbrev pub goes : (psw : ℕ) → Decision
goes psw = Executes (record { first = None; second = None; third = None; destination = None; datum = None; fate = Continues psw })

pub record ConstantChecks : Type 0 where
  -- UTM bit 5: the data exception; all bits but 5: its word, with quality 0
  pub masked : under_utm 0x04 (mov_of 0) ≡ Traps DataException 0x04000000
  pub unmasked : under_utm 0xFB (mov_of 0) ≡ moves 7 0xFB000001
  -- past the count zero, with quality 0: UTM bit 0; all bits but 0
  pub past : under_utm 0x80 (mov_of 1) ≡ Traps DataException 0x80000000
  pub zero : under_utm 0x7F (mov_of 1) ≡ moves 0 0x7F000001
  -- it is full: test 8 fails, test 9 holds; under a false test it is masked all the same
  pub empty : under_utm 0 (branch_by 8) ≡ goes 1
  pub full : under_utm 0 (branch_by 9) ≡ goes 9
  pub tested : under_utm 0x04 (branch_by 0) ≡ Traps DataException 0x04000000

pub constant_checks : ConstantChecks
unfolding opened exclusion_row instruction_word under_utm mov_of branch_by
constant_checks = record { masked = refl; unmasked = refl; past = refl; zero = refl; empty = refl; full = refl; tested = refl }
