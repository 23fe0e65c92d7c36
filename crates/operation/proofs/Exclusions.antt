-- What document 01 excludes, as instances that compute: each environment is one in which the excluded machine would do otherwise.
use Rattle.std.proofs.Common.{Some, None}
use Rattle.std.specs.Prelude.{◌≡◌, refl, ℕ, ◌+◌, ◌*◌, ◌^◌}
use Rattle.window.specs.declared.Row.{Row}
use Rattle.window.specs.Memories.{cell}
use Rattle.operation.specs.declared.Wait.TheVariants.{Access, Data}
use Rattle.operation.specs.declared.Trap.TheVariants.{ProtectionViolation}
use Rattle.operation.specs.declared.Fate.TheVariants.{Continues}
use Rattle.operation.specs.declared.Decision.TheVariants.{Waits, Traps, Executes}
use Rattle.operation.specs.Environment.{Environment}
use Rattle.operation.specs.Decide.{decide}
use Rattle.operation.proofs.Laws.Opened.{opened}

-- registers 6 and 7, data words 32 to 63
unfoldable pub exclusion_row : Row
exclusion_row = record { task = 1; cb = 0; rb = 3; rl = 3; pb = 0; pl = 0; db = 1; dl = 1; kind = 255; psw = 0 }

-- the word of an instruction with these four fields
unfoldable pub instruction_word : (code first second third : ℕ) → ℕ
instruction_word code first second third = code * 2 ^ 48 + first * 2 ^ 32 + second * 2 ^ 16 + third

-- every program word is w, every register full with word 0, every data word empty
unfoldable pub environment_with : ℕ → Environment
environment_with w = record { row = exclusion_row; psw = 0; flag = 0; program_word = λ a. w; cell = λ o. cell 0 0; datum = λ a. cell 0 0 }

pub record Excluded : Type 0 where
  -- no source is emptied where the step is waved: MOV waits for an empty D, and decides no write of S1, which is read under code 2
  pub emptied : decide (environment_with (instruction_word 0x611F 0x1000 0x1001 0)) ≡ Waits Access
  -- the limit is not compared before the base is added: RB 3, RL 3, displacement 2 lies past register 7
  pub limit : decide (environment_with (instruction_word 0x411C 0x0002 0 0)) ≡ Traps ProtectionViolation 0
  -- CALL does not leave D on a false test: test 0 never holds
  pub call : decide (environment_with (instruction_word 0x7901 0x0001 0x4000 0x4000))
      ≡ Executes (record { first = None; second = None; third = None; destination = Some (7, cell 0 1); datum = None; fate = Continues 1 })
  -- an unmet data state does not trap: LODI with SAC 1 of an empty word
  pub state : decide (environment_with (instruction_word 0x6C04 0x0000 0x4000 0)) ≡ Waits Data

pub excluded : Excluded
unfolding opened exclusion_row instruction_word environment_with
excluded = record { emptied = refl; limit = refl; call = refl; state = refl }
