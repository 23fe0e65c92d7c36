-- The loops over rows and over PTs: a turn of each.
use Prim.Native.Nat.{ℕ, ◌+◌, ◌-◌, ◌*◌, ◌≤◌, ◌<◌}
use mathlib.Core.Path.{◌≡◌, sym, ap, ◌∙◌}
use mathlib.Core.Bool.{true, false, not, ◌&&◌}
use mathlib.Core.List.{List, [], ◌∷◌}
use native.Mathlib.Omega.{arith}
use borrow.Author.Tests.{eq-eqb, ne_eqb}
use lib.Dec.{eqb}
use lib.ListN.{length, take, drop, length-drop}
use lib.Seq.{take_all}
use Rattle.std.specs.Prelude.{min}
use Rattle.std.proofs.lemmas.List.{drop_min}
use Rattle.window.specs.declared.Row.{Row}
use Rattle.step.specs.Queues.{hit, occ}
use Rattle.step.specs.Soundness.{has_row, row_ends_in, windows_sound, distinct}
use Rattle.image_bytes.specs.Code.Reading.{field_at, listed}
use Rattle.image_bytes.specs.Laws.Listed.{listed_cons, listed_none}
use Rattle.image_check.specs.Code.Places.{row_at, pts_at}
use Rattle.image.specs.Image.{row_length, process_length}

-- k rows from p on
abbrev pub rows_from : (k p : ℕ) → List ℕ → List Row
rows_from k p s = listed row_length (λ q. row_at q s) k p

module _ (s : List ℕ) (at n i : ℕ) where
  module _ (more : i < n) where
    fewer : n - i - 1 ≡ n - (i + 1)
    fewer = omega arith

    rows_cons : rows_from (n - i) (at + row_length * i) s ≡ row_at (at + row_length * i) s ∷ rows_from (n - (i + 1)) (at + row_length * (i + 1)) s
    rows_cons =
        let e : at + row_length * i + row_length ≡ at + row_length * (i + 1) = omega arith in
        rw (fewer, e) at (listed_cons row_length (λ q. row_at q s) (n - i) (at + row_length * i) (omega arith))

    pts_cons : pts_at (n - i) (at + process_length * i) s ≡ field_at 1 (at + process_length * i) s ∷ pts_at (n - (i + 1)) (at + process_length * (i + 1)) s
    unfolding pts_at
    pts_cons =
        let e : at + process_length * i + process_length ≡ at + process_length * (i + 1) = omega arith in
        rw (fewer, e) at (listed_cons process_length (λ q. field_at 1 q s) (n - i) (at + process_length * i) (omega arith))

    pub row_found : (t : ℕ) → field_at 1 (at + row_length * i) s ≡ t → has_row t (rows_from (n - i) (at + row_length * i) s) ≡ true
    unfolding has_row row_at
    row_found t e = ap (has_row t) rows_cons ∙ rw (eq-eqb (field_at 1 (at + row_length * i) s) t e)

    pub row_next : (t : ℕ) → (field_at 1 (at + row_length * i) s ≡ t → ⊥) → has_row t (rows_from (n - i) (at + row_length * i) s) ≡ has_row t (rows_from (n - (i + 1)) (at + row_length * (i + 1)) s)
    unfolding has_row row_at
    row_next t e = ap (has_row t) rows_cons ∙ rw (ne_eqb (field_at 1 (at + row_length * i) s) t e)

    pub windows_next : (nr np nd : ℕ) → windows_sound nr np nd (rows_from (n - i) (at + row_length * i) s) ≡ (row_ends_in nr np nd (row_at (at + row_length * i) s) && windows_sound nr np nd (rows_from (n - (i + 1)) (at + row_length * (i + 1)) s))
    unfolding windows_sound
    windows_next nr np nd = ap (windows_sound nr np nd) rows_cons

    pub live_found : (x : ℕ) → field_at 1 (at + process_length * i) s ≡ x → not (eqb (occ x (pts_at (n - i) (at + process_length * i) s)) 0) ≡ true
    unfolding occ hit
    live_found x e =
        let o : occ x (pts_at (n - i) (at + process_length * i) s) ≡ 1 + occ x (pts_at (n - (i + 1)) (at + process_length * (i + 1)) s) = ap (occ x) pts_cons ∙ rw (eq-eqb x (field_at 1 (at + process_length * i) s) (sym e)) in
        ap not (ne_eqb (occ x (pts_at (n - i) (at + process_length * i) s)) 0 (λ z. omega (arith, o, z)))

    pub live_next : (x : ℕ) → (field_at 1 (at + process_length * i) s ≡ x → ⊥) → occ x (pts_at (n - i) (at + process_length * i) s) ≡ occ x (pts_at (n - (i + 1)) (at + process_length * (i + 1)) s)
    unfolding occ hit
    live_next x e = ap (occ x) pts_cons ∙ rw (ne_eqb x (field_at 1 (at + process_length * i) s) (λ q. e (sym q))) (omega arith)

    pub distinct_next : distinct (pts_at (n - i) (at + process_length * i) s) ≡ (eqb (occ (field_at 1 (at + process_length * i) s) (pts_at (n - (i + 1)) (at + process_length * (i + 1)) s)) 0 && distinct (pts_at (n - (i + 1)) (at + process_length * (i + 1)) s))
    unfolding distinct
    distinct_next = ap distinct pts_cons

  module _ (none : n ≤ i) where
    rows_none : rows_from (n - i) (at + row_length * i) s ≡ []
    rows_none = listed_none row_length (λ q. row_at q s) (n - i) (at + row_length * i) (omega arith)

    pts_none : pts_at (n - i) (at + process_length * i) s ≡ []
    unfolding pts_at
    pts_none = listed_none process_length (λ q. field_at 1 q s) (n - i) (at + process_length * i) (omega arith)

    pub row_none : (t : ℕ) → has_row t (rows_from (n - i) (at + row_length * i) s) ≡ false
    unfolding has_row
    row_none t = ap (has_row t) rows_none

    pub windows_none : (nr np nd : ℕ) → windows_sound nr np nd (rows_from (n - i) (at + row_length * i) s) ≡ true
    unfolding windows_sound
    windows_none nr np nd = ap (windows_sound nr np nd) rows_none

    pub live_none : (x : ℕ) → occ x (pts_at (n - i) (at + process_length * i) s) ≡ 0
    unfolding occ
    live_none x = ap (occ x) pts_none

    pub distinct_none : distinct (pts_at (n - i) (at + process_length * i) s) ≡ true
    unfolding distinct
    distinct_none = ap distinct pts_none

-- ---- the bytes from a place on, or none

pub from_place : (at : ℕ) (s : List ℕ) {from : ℕ} → from ≡ min at (length s) → take (length s - from) (drop from s) ≡ drop at s
from_place at s {from} e =
    let n = length-drop from s in
    take_all (length s - from) (drop from s) (omega arith) ∙ rw e (drop_min at s)
