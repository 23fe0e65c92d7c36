-- Where the field of an operand leads and what is read there, as instances that compute.
use Rattle.std.specs.Prelude.{ℕ, ◌≡◌, refl, [], ◌∷◌}
use Rattle.word.specs.Fields.{ci_of, ri_of, psw_of}
use Rattle.window.specs.declared.Window.{Window}
use Rattle.window.specs.declared.Cell.{Cell}
use Rattle.window.specs.Memories.{memory, cell, constant_at}
use Rattle.operand.specs.declared.Operand.TheVariants.{Constant}
use Rattle.operand.specs.Field.{indexed_of, constant_of, effective_of}
use Rattle.operand.specs.Access.{visible_cell}

-- a constant by its real address, of two: quality 3 and word 7, quality 5 and word 9
unfoldable pub constant_seen : Window → ℕ → Cell
constant_seen w a = visible_cell w (memory [] []) (memory (3 ∷ 5 ∷ []) (7 ∷ 9 ∷ [])) (Constant a)

pub record OperandTrials (w : Window) : Type 0 where
  -- each constant with its own quality, and zero past their count
  pub first : constant_seen w 0 ≡ cell 3 7
  pub second : constant_seen w 1 ≡ cell 5 9
  pub past : constant_seen w 2 ≡ cell 0 0
  -- under CI 3 and RI 1: displacement 5 of a register and of a constant, and indexed; the access code is no part of it
  pub register : effective_of (psw_of 3 1 0 0) 0x0805 ≡ 5
  pub constant : effective_of (psw_of 3 1 0 0) 0x4005 ≡ 5
  pub indexed_register : effective_of (psw_of 3 1 0 0) 0x8005 ≡ 6
  pub indexed_constant : effective_of (psw_of 3 1 0 0) 0xC005 ≡ 8
  -- the sum does not wrap
  pub above : effective_of (psw_of 0 2047 0 0) 0x8001 ≡ 2048

pub operand_trials : (w : Window) → OperandTrials w
unfolding ci_of ri_of psw_of constant_at indexed_of constant_of effective_of visible_cell constant_seen
operand_trials w = record { first = refl; second = refl; past = refl; register = refl; constant = refl; indexed_register = refl; indexed_constant = refl; above = refl }
