-- Trap records in numbers by task against find_row and put_row.
use Rattle.std.specs.Prelude.{◌≡◌, ◌≢◌, ℕ, ◌≤◌, ◌<◌, length, set, Some}
use Rattle.std.proofs.Math.Path.{refl, sym, ap, ap₂}
use Rattle.std.proofs.Common.{◌∙◌, arith, get_or-set_other}
use mathlib.Core.List.{List, [], ◌∷◌}
use Rattle.std.proofs.Math.ListN.{get_or}
use Rattle.std.proofs.Math.Seq.{get_or-set_same}
use Rattle.window.specs.declared.Row.{Row}
use Rattle.step.specs.State.{find_row, put_row}
use Rattle.step.specs.declared.Ending.{Ending}
use Rattle.step.specs.declared.Ending.TheVariants.{Executed, Waved, Trapped, Idle}
use Rattle.step.specs.Act.{trapped_row}
use Rattle.step.specs.Code.Parts.{row_after}
use Rattle.step.proofs.Laws.Rows.{find_here, find_there, put_here, put_there, here, there, found, put_same, none_some}
use Rattle.run_rings.specs.Code.Records.{with_record, row_in, rows_in, kinds_after, stored_after}

-- the numbers of the tasks rise, all above b
pub data Rising : ℕ → List Row → Type 0 where
  ends : {b : ℕ} → Rising b []
  goes : {b : ℕ} {r : Row} {rs : List Row} → b < r.task → Rising r.task rs → Rising b (r ∷ rs)

-- the row of a task, with its record
pub find_in : (ks ss : List ℕ) (t : ℕ) (rs : List Row) (r : Row) → find_row t rs ≡ Some r → find_row t (rows_in ks ss rs) ≡ Some (row_in ks ss r)
unfolding rows_in
find_in ks ss t [] r e = absurd (none_some r (unfold find_row in e))
find_in ks ss t (y ∷ rs) r e =
    elim (found t r y rs e) [
      | here q p ↦ find_here t (row_in ks ss y) (rows_in ks ss rs) q ∙ ap (λ (x : Row). Some (row_in ks ss x)) p
      | there q k ↦ find_there t (row_in ks ss y) (rows_in ks ss rs) q ∙ find_in ks ss t rs r k
    ]

module _ (ks ss : List ℕ) (t v w : ℕ) where
  row_other : (r : Row) → r.task ≢ t → row_in (set ks t v) (set ss t w) r ≡ row_in ks ss r
  row_other r n = ap₂ {C = Row} (λ x y. with_record r x y) (get_or-set_other ks t r.task v 0 n) (get_or-set_other ss t r.task w 0 n)

  rows_other : (b : ℕ) (rs : List Row) → Rising b rs → t ≤ b → rows_in (set ks t v) (set ss t w) rs ≡ rows_in ks ss rs
  unfolding rows_in
  rows_other b [] g l = refl
  rows_other b (r ∷ rs) (goes h g) l =
      ap₂ {C = List Row} (λ x y. x ∷ y) (row_other r (λ e. omega (arith, e, h, l))) (rows_other r.task rs g (omega (arith, h, l)))

  -- a record stored at t is the row of task t put anew
  store_in : (b : ℕ) (rs : List Row) (r : Row) → Rising b rs → t < length ks → t < length ss → find_row t rs ≡ Some r
      → rows_in (set ks t v) (set ss t w) rs ≡ put_row t (with_record r v w) (rows_in ks ss rs)
  unfolding rows_in
  store_in b [] r g l m e = absurd (none_some r (unfold find_row in e))
  store_in b (y ∷ rs) r (goes h g) l m e =
      elim (found t r y rs e) [
        | here q p ↦
            ap₂ {C = List Row} (λ x z. x ∷ z)
            (ap₂ {C = Row} (λ x z. with_record y x z)
            (ap (λ (i : ℕ). get_or (set ks t v) i 0) q ∙ get_or-set_same ks t v 0 l)
            (ap (λ (i : ℕ). get_or (set ss t w) i 0) q ∙ get_or-set_same ss t w 0 m)
            ∙ ap (λ (x : Row). with_record x v w) p)
            (rows_other y.task rs g (omega (arith, q)))
            ∙ sym (put_here t (with_record r v w) (row_in ks ss y) (rows_in ks ss rs) q)
        | there q k ↦
            ap₂ {C = List Row} (λ x z. x ∷ z) (row_other y q) (store_in y.task rs r g l m k)
            ∙ sym (put_there t (with_record r v w) (row_in ks ss y) (rows_in ks ss rs) q)
      ]

-- the rows after a step of task t
module _ (ks ss : List ℕ) (t b : ℕ) (rs : List Row) (r : Row) (g : Rising b rs) (l : t < length ks) (m : t < length ss) (e : find_row t rs ≡ Some r) where
  stays : rows_in ks ss rs ≡ put_row t (row_in ks ss r) (rows_in ks ss rs)
  stays = sym (put_same t (rows_in ks ss rs) (row_in ks ss r) (find_in ks ss t rs r e))

  pub records_after : (x : Ending) → rows_in (kinds_after x t ks) (stored_after x t ss) rs ≡ put_row t (row_after x (row_in ks ss r)) (rows_in ks ss rs)
  unfolding kinds_after stored_after row_after trapped_row
  records_after Executed = stays
  records_after Waved = stays
  records_after (Trapped k p) = store_in ks ss t _ p b rs r g l m e
  records_after Idle = stays
