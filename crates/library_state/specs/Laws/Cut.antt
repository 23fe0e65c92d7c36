-- Slices cut to their sizes: what is cut is the state in the buffers, and its tests are those of refusal 8.
use Prim.Native.Nat.{ℕ, min, ◌≤◌}
use Rattle.std.specs.Prelude.{◌≡◌, true, false, not, List, length, take}
use Rattle.std.proofs.Common.{arith, take-take}
use borrow.Author.Tests.{le-leb}
use Rattle.window.specs.Memories.{memory}
use Rattle.step.specs.declared.ProcessTable.{ProcessTable}
use Rattle.step.specs.State.{State}
use Rattle.step_soundness.specs.Code.Held.{state_in, sound_in}
use Rattle.library.specs.declared.Sizes.{Sizes}
use Rattle.library.specs.declared.Rows.{Rows}
use Rattle.library.specs.Buffers.{fits, fields_in}
use Rattle.library.specs.Calls.{state_refused}
use Rattle.library.specs.Code.HeldRows.{held_rows}
use Rattle.library.proofs.Laws.Places.{fitting}
use Rattle.library.proofs.Laws.Held.{before, lengths, room_held}

module _ (v : Rows) (table : ProcessTable) (constant_tags constant_words register_tags register_words program data_tags data_words : List ℕ) (n : Sizes) where
  abbrev pub cut : State
  cut =
      state_in v.at n.rows table (memory (take n.constants constant_tags) (take n.constants constant_words)) (take n.registers register_tags) (take n.registers register_words)
      (take n.program program) (take n.data_words data_tags) (take n.data_words data_words)

  abbrev held : State
  held = fields_in n (before v table constant_tags constant_words register_tags register_words program data_tags data_words)

  -- what is cut is the state
  pub cut_fields : n.rows ≤ v.n → cut ≡ held
  unfolding state_in fields_in held_rows
  cut_fields h = rw (take-take n.rows v.n v.at h)

  -- a size above its buffer
  pub unfit_refused : length v.at ≡ 7 → fits n (lengths v table constant_tags constant_words register_tags register_words program data_tags data_words) ≡ false
      → state_refused n (before v table constant_tags constant_words register_tags register_words program data_tags data_words) ≡ true
  unfolding state_refused
  unfit_refused e q = rw (room_held v table constant_tags constant_words register_tags register_words program data_tags data_words e, q)

  -- sizes that fit: the tests of what is cut
  pub cut_refused : length v.at ≡ 7 → fits n (lengths v table constant_tags constant_words register_tags register_words program data_tags data_words) ≡ true
      → not (sound_in n.rows cut) ≡ state_refused n (before v table constant_tags constant_words register_tags register_words program data_tags data_words)
  unfolding state_refused sound_in
  cut_refused e q =
      let h : n.rows ≤ min v.n 7 = (fitting n (lengths v table constant_tags constant_words register_tags register_words program data_tags data_words) q).rows in
      rw (room_held v table constant_tags constant_words register_tags register_words program data_tags data_words e, q, le-leb n.rows 7 (omega (arith, h)), cut_fields (omega (arith, h)))
