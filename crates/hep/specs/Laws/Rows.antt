-- What is loaded is the first seven rows, and what is stored stands over them.
use Rattle.std.specs.Prelude.{ℕ, min, ◌≡◌, List, ◌++◌, length, take, drop}
use Rattle.std.proofs.Common.{sym, ap, ap₂, ◌∙◌, arith, length-append, length-drop, take_all}
use Rattle.std.proofs.lemmas.List.{length-take, take-append-le, take_min, drop_min}
use Rattle.window.specs.declared.Row.{Row}
use Rattle.library.specs.declared.Rows.{Rows}
use Rattle.library.specs.Empty.{no_rows}
use Rattle.hep.specs.Code.Rows.{loaded_rows, stored_rows}

-- these rows were loaded
pub record Loaded (rows : List Row) (v : Rows) : Type 0 where
  pub count : v.n ≡ min (length rows) 7
  pub places : length v.at ≡ 7
  pub held : take v.n v.at ≡ take 7 rows

pub loaded : (rows : List Row) → Loaded rows (loaded_rows rows)
unfolding loaded_rows no_rows
loaded rows =
    let first = take 7 rows in
    record {
      count = omega (arith, length-take 7 rows);
      places = length-append first _ ∙ omega (arith, length-take 7 rows, length-drop (length first) no_rows);
      held = take-append-le (length first) first _ (omega arith) ∙ take_all (length first) first (omega arith);
    }

-- as many rows go back as were loaded
pub stored : (rows : List Row) (v : Rows) → length v.at ≡ 7 → v.n ≡ min (length rows) 7 → stored_rows rows v ≡ take v.n v.at ++ drop 7 rows
unfolding stored_rows
stored rows v e k =
    let n : v.n ≡ min (length rows) (length v.at) = omega (arith, e, k) in
    let m : length (take (length rows) v.at) ≡ min 7 (length rows) = omega (arith, e, length-take (length rows) v.at) in
    ap₂ {C = List Row} ◌++◌ (sym (ap (λ (j : ℕ). take j v.at) n ∙ take_min (length rows) v.at)) (ap (λ (j : ℕ). drop j rows) m ∙ drop_min 7 rows)

-- ---- the first n places, copied

pub loads : (rows : List Row) (n : ℕ) (first empty : List Row) → n ≡ min 7 (length rows) → first ≡ take n rows → empty ≡ no_rows
    → ◌≡◌ {A = Rows} (record { at = first ++ drop n empty; n = n }) (loaded_rows rows)
unfolding loaded_rows
loads rows n first empty e f g =
    let t : first ≡ take 7 rows = f ∙ ap (λ (j : ℕ). take j rows) e ∙ take_min 7 rows in
    let k : n ≡ length (take 7 rows) = e ∙ sym (length-take 7 rows) in
    rw (t, g, k)

pub stores : (rows : List Row) (v : Rows) (n : ℕ) (first : List Row) → length v.at ≡ 7 → n ≡ min 7 (length rows) → first ≡ take n v.at
    → first ++ drop n rows ≡ stored_rows rows v
unfolding stored_rows
stores rows v n first s e f =
    let m : n ≡ min (length rows) (length v.at) = omega (arith, s) in
    let t : first ≡ take (length rows) v.at = f ∙ ap (λ (j : ℕ). take j v.at) m ∙ take_min (length rows) v.at in
    let k : n ≡ length (take (length rows) v.at) = m ∙ sym (length-take (length rows) v.at) in
    rw (t, k)
