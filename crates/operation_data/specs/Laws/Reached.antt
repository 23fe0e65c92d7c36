-- Check 7 and the data word as code has them, against what the operations decide.
use Rattle.std.specs.Prelude.{Result, Ok, ℕ, ◌+◌, ◌%◌, ◌^◌, ◌≡◌, Bool, cond, List, [], ◌∷◌, eqb, get_or, set, Some, None}
use Rattle.std.proofs.Math.Path.{refl}
use Rattle.std.proofs.Common.{sym, ap, ◌∙◌}
use Rattle.std.proofs.Math.Bool.{true, false}
use Rattle.std.proofs.Math.Seq.{set-get_or}
use Rattle.word.specs.Fields.{next_of}
use Rattle.word.specs.declared.Instruction.{Instruction}
use Rattle.word.specs.Parts.{extracted, placed}
use Rattle.word.specs.declared.Part.{Part}
use Rattle.window.specs.declared.Row.{Row}
use Rattle.window.specs.Windows.{data_window, data_word_window, byte_place}
use Rattle.window.specs.Memories.{Memory, memory, cell, cell_at, stored, stored_one, stored_all, written}
use Rattle.window.specs.Code.Spans.{Span, byte_below}
use Rattle.window.proofs.Laws.Spans.{byte_below_lem}
use Rattle.operation.specs.declared.Operation.TheVariants.{LoadIndirect, LoadIndexed, StoreIndirect, StoreIndexed}
use Rattle.operation.specs.declared.FoundOperands.{FoundOperands}
use Rattle.operation.specs.declared.Trap.{Trap}
use Rattle.operation.specs.declared.Wait.TheVariants.{Data}
use Rattle.operation.specs.declared.Fate.TheVariants.{Continues}
use Rattle.operation.specs.declared.Decision.TheVariants.{Waits}
use Rattle.operation.specs.Roles.{sac_of}
use Rattle.operation.specs.Environment.{environment_of}
use Rattle.operation.specs.Results.{quality0}
use Rattle.operation.specs.Perform.{perform, executed, result_in, indirect_address, indexed_address, data_reach, load_waits, load_leaves, load_part, load_from, perform_load, store_waits, store_part, store_to, perform_store}
use Rattle.operation.proofs.Laws.Found.{reached_inside, reached_seen}
use Rattle.step.specs.Code.Parts.{fate_psws}
use Rattle.operation_data.specs.Code.Reached.{tags_left}

-- check 7 by the numbers of the data window is check 7 of the row
pub reach : (row : Row) (low e base end : ℕ) → Span (data_window row) base end → (x y : Result (ℕ × Part) Trap) → x ≡ data_reach low e (byte_below base end e) → x ≡ y
    → data_reach low e (byte_place row e) ≡ y
reach row low e base end span x y r q = ap (data_reach low e) (sym (byte_below_lem row base end span e)) ∙ sym r ∙ q

module _ (row : Row) (psw flag : ℕ) (program : List ℕ) (constants m : Memory) (tags words : List ℕ) (s : FoundOperands) (low e : ℕ) where
  -- the four operations by what is reached, e being the byte address
  module _ (i : Instruction) (y : Result (ℕ × Part) Trap) (at : data_reach low e (byte_place row e) ≡ y) where
    pub loads_indirect : e ≡ s.second.cell.word % 2 ^ 32
        → load_from (environment_of row psw flag program constants m (memory tags words)) s low y ≡ perform (LoadIndirect low) (environment_of row psw flag program constants m (memory tags words)) i s
    unfolding environment_of perform perform_load indirect_address
    loads_indirect k = rw (← k, at)

    pub loads_indexed : e ≡ (s.second.cell.word + s.third.cell.word) % 2 ^ 32
        → load_from (environment_of row psw flag program constants m (memory tags words)) s low y ≡ perform (LoadIndexed low) (environment_of row psw flag program constants m (memory tags words)) i s
    unfolding environment_of perform perform_load indexed_address
    loads_indexed k = rw (← k, at)

    pub stores_indirect : e ≡ s.second.cell.word % 2 ^ 32
        → store_to (environment_of row psw flag program constants m (memory tags words)) s low s.third.cell.word y ≡ perform (StoreIndirect low) (environment_of row psw flag program constants m (memory tags words)) i s
    unfolding environment_of perform perform_store indirect_address
    stores_indirect k = rw (← k, at)

    pub stores_indexed : e ≡ (s.second.cell.word + s.third.cell.word) % 2 ^ 32
        → store_to (environment_of row psw flag program constants m (memory tags words)) s low s.first.cell.word y ≡ perform (StoreIndexed low) (environment_of row psw flag program constants m (memory tags words)) i s
    unfolding environment_of perform perform_store indexed_address
    stores_indexed k = rw (← k, at)

  -- the data word p of which a part is reached: its state is unmet or not
  module _ (p : ℕ) (part : Part) (at : data_reach low e (byte_place row e) ≡ Ok (p, part)) (unmet b : Bool) where
    pub load_seen : (word : ℕ) → word ≡ extracted part (get_or words p 0) → unmet ≡ load_waits low (get_or tags p 0) → unmet ≡ b
        → cond b (Waits Data) (executed s (result_in s.first (quality0 word)) (load_leaves low p (get_or words p 0)) (Continues (next_of psw)))
        ≡ load_from (environment_of row psw flag program constants m (memory tags words)) s low (Ok (p, part))
    unfolding environment_of load_from load_part cell_at
    load_seen word w k u = rw (reached_seen row low e p part at (memory tags words), ← w, ← k, u)

    pub store_seen : (register word : ℕ) → word ≡ placed part register (get_or words p 0) → unmet ≡ store_waits low (get_or tags p 0) → unmet ≡ b
        → cond b (Waits Data) (executed s None (Some (p, cell 1 word)) (Continues (next_of psw)))
        ≡ store_to (environment_of row psw flag program constants m (memory tags words)) s low register (Ok (p, part))
    unfolding environment_of store_to store_part cell_at
    store_seen register word w k u = rw (reached_seen row low e p part at (memory tags words), ← w, ← k, u)

-- what a data word of which a part is reached is left with: it lies in the data window
module _ (row : Row) (low e p : ℕ) (part : Part) (at : data_reach low e (byte_place row e) ≡ Ok (p, part)) (tags words : List ℕ) where
  pub load_left : (tags' : List ℕ) → tags' ≡ tags_left low p tags
      → memory tags' words ≡ written (data_word_window row) (load_leaves low p (get_or words p 0) ∷ []) (memory tags words)
  unfolding tags_left load_leaves written stored_all stored_one stored
  load_left tags' t = rw t (go (eqb (sac_of low) 2))
    where
      go : (b : Bool) → memory (cond b (set tags p 0) tags) words ≡ written (data_word_window row) (cond b (Some (p, cell 0 (get_or words p 0))) None ∷ []) (memory tags words)
      go true = rw (reached_inside row low e p part at, set-get_or words p 0)
      go false = refl

  pub store_left : (word : ℕ) (tags' words' : List ℕ) → tags' ≡ set tags p 1 → words' ≡ set words p word
      → memory tags' words' ≡ written (data_word_window row) (Some (p, cell 1 word) ∷ []) (memory tags words)
  unfolding written stored_all stored_one stored
  store_left word tags' words' t w = rw (t, w, reached_inside row low e p part at)

-- the process goes on with PC + 1
pub goes_on_lem : (pt fresh psw next : ℕ) (psws psws' : List ℕ) → psws' ≡ set psws pt next → next ≡ next_of psw → psws' ≡ fate_psws pt fresh (Continues (next_of psw)) psws
unfolding fate_psws
goes_on_lem pt fresh psw next psws psws' e k = e ∙ ap (set psws pt) k
