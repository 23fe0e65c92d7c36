-- The row at a place: the place of a task, what is put there, and the same of the first rows of a longer slice.
use Rattle.std.specs.Prelude.{ℕ, zero, suc, ◌<◌, ◌≡◌, refl, Bool, true, false, cond, ◌||◌, List, [], ◌∷◌, eqb, length, get_or, set, take}
use Rattle.std.proofs.Common.{ap, arith}
use Rattle.std.proofs.lemmas.Bool.{false≢true}
use Rattle.window.specs.declared.Row.{Row}
use Rattle.step.specs.State.{put_row}
use Rattle.step.specs.Soundness.{has_row}
use Rattle.library.specs.Code.RowPlace.{place_of}

-- what stands within a list stands there whatever stands elsewhere
pub get_d_any : (l : List Row) (i : ℕ) (a b : Row) → i < length l → get_or l i a ≡ get_or l i b
get_d_any [] i a b h = absurd (omega (arith, h))
get_d_any (x ∷ l) zero a b h = refl
get_d_any (x ∷ l) (suc i) a b h = get_d_any l i a b (omega (arith, h))

-- the place of a listed task is one of the rows
pub place_below_lem : (t : ℕ) (rows : List Row) → has_row t rows ≡ true → place_of t rows < length rows
unfolding has_row place_of
place_below_lem t [] e = absurd (false≢true e)
place_below_lem t (r ∷ rs) e = go (eqb r.task t) (place_below_lem t rs) e
  where
    go : (b : Bool) → (has_row t rs ≡ true → place_of t rs < length rs) → b || has_row t rs ≡ true → cond b 0 (suc (place_of t rs)) < suc (length rs)
    go true ih e = omega arith
    go false ih e = omega (arith, ih e)

-- a row that is put for that of a task stands at its place
pub put_at_lem : (t : ℕ) (x : Row) (rows : List Row) → put_row t x rows ≡ set rows (place_of t rows) x
unfolding place_of put_row
put_at_lem t x [] = refl
put_at_lem t x (r ∷ rs) = go (eqb r.task t) (put_at_lem t x rs)
  where
    go : (b : Bool) → put_row t x rs ≡ set rs (place_of t rs) x → cond b (x ∷ rs) (r ∷ put_row t x rs) ≡ set (r ∷ rs) (cond b 0 (suc (place_of t rs))) x
    go true e = refl
    go false e = ap (λ (l : List Row). r ∷ l) e

-- a task that is listed among the first n rows is listed, and has its place there
pub first_listed : (t n : ℕ) (rows : List Row) → has_row t (take n rows) ≡ true → (has_row t rows ≡ true) × (place_of t (take n rows) ≡ place_of t rows)
unfolding has_row place_of
first_listed t zero rows e = absurd (false≢true e)
first_listed t (suc n) [] e = absurd (false≢true e)
first_listed t (suc n) (r ∷ rs) e = go (eqb r.task t) (first_listed t n rs) e
  where
    go : (b : Bool) → (has_row t (take n rs) ≡ true → (has_row t rs ≡ true) × (place_of t (take n rs) ≡ place_of t rs)) → b || has_row t (take n rs) ≡ true
        → (b || has_row t rs ≡ true) × (cond b 0 (suc (place_of t (take n rs))) ≡ cond b 0 (suc (place_of t rs)))
    go true ih e = (refl, refl)
    go false ih e = ((ih e).0, ap suc (ih e).1)
