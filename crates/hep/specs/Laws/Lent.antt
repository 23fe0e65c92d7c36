-- What the calls with rows by value promise of the rows that were loaded, the thin calls promise of the lent slice: what all calls share.
use Rattle.std.specs.Prelude.{◌≡◌, List, ◌++◌, take, drop}
use Rattle.std.proofs.Common.{sym, ap, ◌∙◌, subst}
use Rattle.window.specs.declared.Row.{Row}
use Rattle.library.specs.declared.Rows.{Rows}
use Rattle.library.specs.Buffers.{Buffers}
use Rattle.library.specs.Code.HeldRows.{held_rows, SamePlaces}
use Rattle.hep.specs.Code.Rows.{loaded_rows, stored_rows}
use Rattle.hep.specs.Laws.Rows.{loaded, stored}
use Rattle.hep.specs.Laws.Seven.{with_rows, behind, seven}

pub rows_held : (rows : List Row) → held_rows (loaded_rows rows) ≡ take 7 rows
unfolding held_rows
rows_held rows = (loaded rows).held

rows_back : (rows rows' : List Row) (v : Rows) → SamePlaces (loaded_rows rows) v → rows' ≡ stored_rows rows v → rows' ≡ held_rows v ++ drop 7 rows
unfolding held_rows
rows_back rows rows' v k e = e ∙ stored rows v k.places (k.count ∙ (loaded rows).count)

module _ (b : Buffers) where
  -- of rows that were loaded, and so of the first seven; of the first seven, and so of the rows that were stored
  module _ (P : Buffers → Buffers → Type 0) (v : Rows) (before : v ≡ loaded_rows b.rows) where
    pub first_seven : (a : Buffers) → P (with_rows (held_rows v) b) a → P (seven b) a
    first_seven a = subst (λ (y : List Row). P (with_rows y b) a) (ap held_rows before ∙ rows_held b.rows)

    pub stored_back : (v' : Rows) (rows' : List Row) (a : Buffers) → SamePlaces v v' → rows' ≡ stored_rows b.rows v' → P b (behind (drop 7 b.rows) (with_rows (held_rows v') a)) → P b (with_rows rows' a)
    stored_back v' rows' a k e = subst (λ (y : List Row). P b (with_rows y a)) (sym (rows_back b.rows rows' v' (subst (λ (y : Rows). SamePlaces y v') before k) e))
