-- Rows of tasks: search by number, replacement of a row.
use Rattle.std.specs.Prelude.{◌≡◌, ◌≢◌, Bool, true, false, cond, List, [], ◌∷◌, ℕ, eqb}
use Rattle.std.proofs.Math.Path.{refl}
use Rattle.std.proofs.Common.{sym, ap, ◌∙◌, subst, arith, eq-eqb, ne_eqb, Option, None, Some}
use Rattle.word.proofs.Laws.Bools.{Eq?, same, differ, eq?}
use Rattle.window.specs.declared.Row.{Row}
use Rattle.step.specs.State.{find_row, put_row}

pub some_inj : {A : Type 0} (x y : A) → ◌≡◌ {A = Option A} (Some x) (Some y) → x ≡ y
some_inj x y e = cc

pub none_some : {A : Type 0} (x : A) → ◌≡◌ {A = Option A} None (Some x) → ⊥
none_some x e = let z : ◌≡◌ {A = ℕ} 0 1 = cc in omega arith

pub find_here : (t : ℕ) (r : Row) (rs : List Row) → r.task ≡ t → find_row t (r ∷ rs) ≡ Some r
unfolding find_row
find_here t r rs q = ap (λ (b : Bool). cond b (Some r) (find_row t rs)) (eq-eqb r.task t q)

pub find_there : (t : ℕ) (r : Row) (rs : List Row) → r.task ≢ t → find_row t (r ∷ rs) ≡ find_row t rs
unfolding find_row
find_there t r rs q = ap (λ (b : Bool). cond b (Some r) (find_row t rs)) (ne_eqb r.task t q)

pub put_here : (t : ℕ) (x r : Row) (rs : List Row) → r.task ≡ t → put_row t x (r ∷ rs) ≡ x ∷ rs
unfolding put_row
put_here t x r rs q = ap (λ (b : Bool). cond b (x ∷ rs) (r ∷ put_row t x rs)) (eq-eqb r.task t q)

pub put_there : (t : ℕ) (x r : Row) (rs : List Row) → r.task ≢ t → put_row t x (r ∷ rs) ≡ r ∷ put_row t x rs
unfolding put_row
put_there t x r rs q = ap (λ (b : Bool). cond b (x ∷ rs) (r ∷ put_row t x rs)) (ne_eqb r.task t q)

-- the row that a search finds is the first one, or is found behind it
pub data Found (t : ℕ) (r y : Row) (rs : List Row) : Type 0 where
  here : y.task ≡ t → y ≡ r → Found t r y rs
  there : y.task ≢ t → find_row t rs ≡ Some r → Found t r y rs

pub found : (t : ℕ) (r y : Row) (rs : List Row) → find_row t (y ∷ rs) ≡ Some r → Found t r y rs
unfolding find_row
found t r y rs e = go (eqb y.task t) (eq? y.task t) e
  where
    go : (b : Bool) → Eq? y.task t b → cond b (Some y) (find_row t rs) ≡ Some r → Found t r y rs
    go true (same q) e = here q (some_inj y r e)
    go false (differ q) e = there q e

pub find_task : (t : ℕ) (rs : List Row) (r : Row) → find_row t rs ≡ Some r → r.task ≡ t
find_task t [] r e = absurd (none_some r (unfold find_row in e))
find_task t (y ∷ rs) r e = elim (found t r y rs e) [ here q p ↦ rw (← p) q | there q k ↦ find_task t rs r k ]

-- the lists are one but that x stands for r
pub data Put (r x : Row) : List Row → List Row → Type 0 where
  first : {rs : List Row} → Put r x (r ∷ rs) (x ∷ rs)
  later : {y : Row} {rs qs : List Row} → Put r x rs qs → Put r x (y ∷ rs) (y ∷ qs)

pub put_row_lem : (t : ℕ) (rs : List Row) (r x : Row) → find_row t rs ≡ Some r → Put r x rs (put_row t x rs)
put_row_lem t [] r x e = absurd (none_some r (unfold find_row in e))
put_row_lem t (y ∷ rs) r x e =
    elim (found t r y rs e) [
      | here q p ↦ rw (put_here t x y rs q) (subst (λ (z : Row). Put r x (z ∷ rs) (x ∷ rs)) (sym p) first)
      | there q k ↦ rw (put_there t x y rs q) (later (put_row_lem t rs r x k))
    ]

-- the row that is found, put for itself
pub put_same : (t : ℕ) (rs : List Row) (r : Row) → find_row t rs ≡ Some r → put_row t r rs ≡ rs
put_same t [] r e = absurd (none_some r (unfold find_row in e))
put_same t (y ∷ rs) r e =
    elim (found t r y rs e) [
      | here q p ↦ put_here t r y rs q ∙ ap (λ (z : Row). z ∷ rs) (sym p)
      | there q k ↦ put_there t r y rs q ∙ ap (λ (l : List Row). y ∷ l) (put_same t rs r k)
    ]

pub find_put_same : (t : ℕ) (rs : List Row) (r x : Row) → find_row t rs ≡ Some r → x.task ≡ t → find_row t (put_row t x rs) ≡ Some x
find_put_same t [] r x e n = absurd (none_some r (unfold find_row in e))
find_put_same t (y ∷ rs) r x e n =
    elim (found t r y rs e) [
      | here q p ↦ ap (find_row t) (put_here t x y rs q) ∙ find_here t x rs n
      | there q k ↦ ap (find_row t) (put_there t x y rs q) ∙ find_there t y (put_row t x rs) q ∙ find_put_same t rs r x k n
    ]

pub find_put_other : (t u : ℕ) (rs : List Row) (x : Row) → u ≢ t → x.task ≡ u → find_row t (put_row u x rs) ≡ find_row t rs
find_put_other t u [] x ne n = unfold put_row in refl
find_put_other t u (y ∷ rs) x ne n = go (eqb y.task u) (eqb y.task t) (eq? y.task u) (eq? y.task t) (find_put_other t u rs x ne n)
  where
    go : (b c : Bool) → Eq? y.task u b → Eq? y.task t c → find_row t (put_row u x rs) ≡ find_row t rs → find_row t (put_row u x (y ∷ rs)) ≡ find_row t (y ∷ rs)
    go true true (same p) (same q) ih = absurd (ne (cc))
    go true false (same p) (differ q) ih =
        ap (find_row t) (put_here u x y rs p) ∙ find_there t x rs (λ k. ne (cc)) ∙ sym (find_there t y rs q)
    go false true (differ p) (same q) ih = ap (find_row t) (put_there u x y rs p) ∙ find_here t y (put_row u x rs) q ∙ sym (find_here t y rs q)
    go false false (differ p) (differ q) ih =
        ap (find_row t) (put_there u x y rs p) ∙ find_there t y (put_row u x rs) q ∙ ih ∙ sym (find_there t y rs q)
