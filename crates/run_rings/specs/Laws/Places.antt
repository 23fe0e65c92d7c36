-- The place of a row is where a search finds it.
use Rattle.std.specs.Prelude.{ℕ, suc, ◌+◌, ◌≤◌, ◌<◌, min, ◌≡◌, refl, ◌≢◌, Bool, true, false, Option, Some, None, List, [], ◌∷◌, eqb, get_or, take, drop}
use Rattle.std.proofs.Math.Path.{sym, ap}
use Rattle.std.proofs.Common.{◌∙◌, add-one, arith, drop_of_length-le, drop-cons, get_or-take, eq-eqb, ne_eqb}
use Rattle.std.proofs.Math.Bool.{cond}
use Rattle.std.proofs.Math.ListN.{length, length-take}
use Rattle.window.specs.declared.Row.{Row}
use Rattle.step.specs.State.{find_row}
use Rattle.run_rings.specs.Code.Place.{place_from}

-- what a search of rows finds, by the place; outside of an array of rows stands any row d
data Placed (k : ℕ) (rows : List Row) (found : Option Row) : Option ℕ → Type 0 where
  listed : (i j : ℕ) → i ≡ k + j → j < length rows → ((d : Row) → found ≡ Some (get_or rows j d)) → Placed k rows found (Some i)
  unlisted : found ≡ None → Placed k rows found None

-- behind one more row
behind : (r : Row) (k : ℕ) (rows : List Row) (found : Option Row) (p : Option ℕ) → Placed (k + 1) rows found p → Placed k (r ∷ rows) found p
behind r k rows found p (listed i j e h f) = listed i (suc j) (omega arith) (omega arith) f
behind r k rows found p (unlisted f) = unlisted f

placed : (t k : ℕ) (rows : List Row) → Placed k rows (find_row t rows) (place_from t k rows)
unfolding find_row
placed t k [] = unlisted refl
placed t k (r ∷ rs) = go (eqb r.task t) (placed t (k + 1) rs)
  where
    go : (b : Bool) → Placed (k + 1) rs (find_row t rs) (place_from t (k + 1) rs)
        → Placed k (r ∷ rs) (cond b (Some r) (find_row t rs)) (cond b (Some k) (place_from t (k + 1) rs))
    go true p = listed k 0 (omega arith) (omega arith) (λ d. refl)
    go false p = behind r k rs (find_row t rs) (place_from t (k + 1) rs) p

-- the row of task t stands at j of an array of which the first n count
pub record Stands (t n : ℕ) (rows : List Row) (j : ℕ) : Type 0 where
  pub inside : j < length rows
  pub finds : (d : Row) → find_row t (take n rows) ≡ Some (get_or rows j d)

module _ (t n : ℕ) (rows : List Row) where
  pub stands : (j : ℕ) → Some j ≡ place_from t 0 (take n rows) → Stands t n rows j
  stands j e = go (place_from t 0 (take n rows)) e (placed t 0 (take n rows))
    where
      go : (p : Option ℕ) → Some j ≡ p → Placed 0 (take n rows) (find_row t (take n rows)) p → Stands t n rows j
      go p e (listed i k q h f) =
          let s : j ≡ i = cc in
          let m : j ≡ k = omega arith in
          let b : length (take n rows) ≡ min n (length rows) = length-take n rows in
          let a : k < n = omega arith in
          rw m
          (record { inside = omega arith; finds = λ d. f d ∙ ap Some (get_or-take n rows k d a) })
      go p e (unlisted f) = let z : ◌≡◌ {A = ℕ} 0 1 = cc in absurd (omega arith)

  pub unfound : None ≡ place_from t 0 (take n rows) → find_row t (take n rows) ≡ None
  unfound e = go (place_from t 0 (take n rows)) e (placed t 0 (take n rows))
    where
      go : (p : Option ℕ) → None ≡ p → Placed 0 (take n rows) (find_row t (take n rows)) p → find_row t (take n rows) ≡ None
      go p e (listed i k q h f) = let z : ◌≡◌ {A = ℕ} 0 1 = cc in absurd (omega arith)
      go p e (unlisted f) = f

-- a search of the rows one by one, those from the ith on being left
module _ (t n i : ℕ) (rows : List Row) where
  next_row : (d : Row) → i < n → i < length rows
      → place_from t i (drop i (take n rows)) ≡ cond (eqb (get_or rows i d).task t) (Some i) (place_from t (i + 1) (drop (i + 1) (take n rows)))
  unfolding place_from
  next_row d h k =
      let m : i < length (take n rows) = rw length-take (omega arith) in
      let e : drop (i + 1) (take n rows) ≡ drop (suc i) (take n rows) = rw add-one refl in
      ap (place_from t i) (drop-cons (take n rows) i d m)
      ∙ ap (λ (r : Row). cond (eqb r.task t) (Some i) (place_from t (i + 1) (drop (suc i) (take n rows)))) (get_or-take n rows i d h)
      ∙ ap (λ (l : List Row). cond (eqb (get_or rows i d).task t) (Some i) (place_from t (i + 1) l)) (sym e)

  pub row_found : (d : Row) {w : Option ℕ} → i < n → i < length rows → (get_or rows i d).task ≡ t → place_from t i (drop i (take n rows)) ≡ w → Some i ≡ w
  row_found d h k e p =
      sym (next_row d h k ∙ ap (λ (b : Bool). cond b (Some i) (place_from t (i + 1) (drop (i + 1) (take n rows)))) (eq-eqb (get_or rows i d).task t e)) ∙ p

  pub row_passed : (d : Row) {w : Option ℕ} → i < n → i < length rows → (get_or rows i d).task ≢ t → place_from t i (drop i (take n rows)) ≡ w
      → place_from t (i + 1) (drop (i + 1) (take n rows)) ≡ w
  row_passed d h k e p =
      sym (next_row d h k ∙ ap (λ (b : Bool). cond b (Some i) (place_from t (i + 1) (drop (i + 1) (take n rows)))) (ne_eqb (get_or rows i d).task t e)) ∙ p

  none_left : {w : Option ℕ} → length (take n rows) ≤ i → place_from t i (drop i (take n rows)) ≡ w → None ≡ w
  unfolding place_from
  none_left h p = sym (ap (place_from t i) (drop_of_length-le (take n rows) h)) ∙ p

  pub past_count : {w : Option ℕ} → n ≤ i → place_from t i (drop i (take n rows)) ≡ w → None ≡ w
  past_count h p = none_left (rw length-take (omega arith)) p

  pub past_end : {w : Option ℕ} → length rows ≤ i → place_from t i (drop i (take n rows)) ≡ w → None ≡ w
  past_end h p = none_left (rw length-take (omega arith)) p
