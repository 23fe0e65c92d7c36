-- The call's own rows and process table among the buffers.
use Prim.Native.Nat.{ℕ}
use mathlib.Core.Path.{◌≡◌, refl, subst}
use mathlib.Core.List.{List}
use Rattle.window.specs.declared.Row.{Row}
use Rattle.step.specs.declared.ProcessTable.{ProcessTable}
use Rattle.library.specs.declared.Rows.{Rows}
use Rattle.library.specs.Buffers.{Buffers}
use Rattle.library.specs.Held.{lent_buffers}
use Rattle.library.specs.Code.HeldRows.{held_rows}
use Rattle.library.specs.Empty.{no_rows, no_processes}
use Rattle.benchmark.specs.Calls.{memories_in}

module _ (constant_tags constant_words register_tags register_words program data_tags data_words : List ℕ) where
  pub own : {v : Rows} {t : ProcessTable} → v ≡ record { at = no_rows; n = 7 } → t ≡ no_processes
      → lent_buffers (held_rows v) t constant_tags constant_words register_tags register_words program data_tags data_words
      ≡ memories_in constant_tags constant_words register_tags register_words program data_tags data_words
  unfolding held_rows memories_in no_rows
  own e f = rw (e, f)

  -- what is left beside them
  pub beside : {rows : List Row} {t : ProcessTable} {l : Buffers} → lent_buffers rows t constant_tags constant_words register_tags register_words program data_tags data_words ≡ l
      → lent_buffers l.rows l.table constant_tags constant_words register_tags register_words program data_tags data_words ≡ l
  beside e = subst (λ (l : Buffers). lent_buffers l.rows l.table constant_tags constant_words register_tags register_words program data_tags data_words ≡ l) e refl
