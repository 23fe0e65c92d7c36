-- Rows by value among the buffers, and a state that isn't refused.
use Rattle.std.specs.Prelude.{ℕ, min, ◌≡◌, refl, Bool, true, false, not, ◌&&◌, List, length}
use Rattle.std.proofs.Common.{arith, length-take}
use Rattle.step.specs.declared.ProcessTable.{ProcessTable}
use Rattle.step.specs.Soundness.{live_sound, sound}
use Rattle.step.proofs.Laws.Sound.{sound_parts}
use Rattle.library.specs.declared.Sizes.{Sizes}
use Rattle.library.specs.declared.Rows.{Rows}
use Rattle.library.specs.Buffers.{Buffers, Room, room_of, fits, fields_in}
use Rattle.library.specs.Calls.{state_refused}
use Rattle.library.specs.Held.{lent_buffers, room_from}
use Rattle.library.specs.Code.HeldRows.{held_rows}

module _ (v : Rows) (table : ProcessTable) (constant_tags constant_words register_tags register_words program data_tags data_words : List ℕ) where
  -- the buffers
  abbrev pub before : Buffers
  before = lent_buffers (held_rows v) table constant_tags constant_words register_tags register_words program data_tags data_words

  -- their lengths, as they are tested
  abbrev pub lengths : Room
  lengths =
      room_from (min v.n 7) (length constant_tags) (length constant_words) (length register_tags) (length register_words) (length program) (length data_tags) (length data_words)

  pub room_held : length v.at ≡ 7 → room_of before ≡ lengths
  unfolding room_of held_rows
  room_held e = rw (length-take v.n v.at, e)

-- a state that isn't refused has sizes that fit, and is sound
pub accepted : (n : Sizes) (b : Buffers) → state_refused n b ≡ false → (fits n (room_of b) ≡ true) × (sound (fields_in n b) ≡ true)
unfolding state_refused
accepted n b e = go (fits n (room_of b)) (sound (fields_in n b)) e
  where
    go : (f s : Bool) → not (f && s) ≡ false → (f ≡ true) × (s ≡ true)
    go true true q = (refl, refl)
    go true false q = let z : ◌≡◌ {A = ℕ} 0 1 = cc in absurd (omega arith)
    go false s q = let z : ◌≡◌ {A = ℕ} 0 1 = cc in absurd (omega arith)

-- its live counts are those of its queues
pub accepted_live : (n : Sizes) (b : Buffers) → state_refused n b ≡ false → live_sound b.table.users ≡ true
unfolding fields_in
accepted_live n b e = (sound_parts (fields_in n b) (accepted n b e).1).table.counted
