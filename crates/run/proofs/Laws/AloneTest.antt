-- The test that a task's register and data windows meet no other task's.
use Rattle.std.specs.Prelude.{◌≡◌, refl, ◌≢◌, Bool, true, false, not, ◌&&◌, ◌||◌, List, [], ◌∷◌, ℕ, eqb}
use Rattle.std.proofs.Common.{sym, ap, ◌∙◌, subst, eqb-true, Option, None, Some}
use Rattle.std.proofs.lemmas.Bool.{not-true}
use Rattle.word.proofs.Laws.Bools.{and_left, and_right}
use Rattle.word.proofs.Laws.Conjunctions.{both}
use Rattle.window.specs.declared.Row.{Row}
use Rattle.window.specs.Windows.{meets, register_window, data_word_window}
use Rattle.step.specs.State.{State, find_row}
use Rattle.step.proofs.Laws.Rows.{here, there, found, none_some, find_task}
use Rattle.run.specs.Compared.{Alone}

-- the windows of two rows do not meet
unfoldable pub unmet : Row → Row → Bool
unmet r x = not (meets (register_window r) (register_window x)) && not (meets (data_word_window r) (data_word_window x))

unfoldable pub alone_from : Row → List Row → Bool
alone_from r [] = true
alone_from r (x ∷ xs) = (eqb x.task r.task || unmet r x) && alone_from r xs

unfoldable pub alone_in : Option Row → List Row → Bool
alone_in None rows = true
alone_in (Some r) rows = alone_from r rows

unfoldable pub alone : ℕ → State → Bool
alone t s = alone_in (find_row t s.rows) s.rows

-- the test holds of each row that a search finds
unmet_found : (r : Row) (rows : List Row) (u : ℕ) (x : Row) → alone_from r rows ≡ true → find_row u rows ≡ Some x → u ≢ r.task → unmet r x ≡ true
unfolding alone_from
unmet_found r [] u x a e n = absurd (none_some x (unfold find_row in e))
unmet_found r (y ∷ rows) u x a e n =
    elim (found u x y rows e) [
      | here q k ↦ subst (λ (z : Row). unmet r z ≡ true) k (first (eqb y.task r.task) refl q (and_left (eqb y.task r.task || unmet r y) (alone_from r rows) a))
      | there q k ↦ unmet_found r rows u x (and_right (eqb y.task r.task || unmet r y) (alone_from r rows) a) k n
    ]
  where
    first : (b : Bool) → eqb y.task r.task ≡ b → y.task ≡ u → b || unmet r y ≡ true → unmet r y ≡ true
    first true f q h = absurd (n (sym q ∙ eqb-true y.task r.task f))
    first false f q h = h

pub alone_of : (t : ℕ) (s : State) → alone t s ≡ true → Alone t s
unfolding alone alone_in unmet
alone_of t s a u n = record {
  registers = λ r x e f. not-true (meets (register_window r) (register_window x)) (parts r x e f).0;
  data_words = λ r x e f. not-true (meets (data_word_window r) (data_word_window x)) (parts r x e f).1;
}
  where
    parts : (r x : Row) → find_row t s.rows ≡ Some r → find_row u s.rows ≡ Some x
        → (not (meets (register_window r) (register_window x)) ≡ true) × (not (meets (data_word_window r) (data_word_window x)) ≡ true)
    parts r x e f =
        both (λ k. k) (λ k. k)
        (unmet_found r s.rows u x (sym (ap (λ (o : Option Row). alone_in o s.rows) e) ∙ a) f (λ k. n (k ∙ find_task t s.rows r e)))
