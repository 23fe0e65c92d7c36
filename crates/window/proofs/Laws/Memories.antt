-- What stores through a window do to a list, seen from one place, and what a task sees of it.
use Rattle.std.specs.Prelude.{◌≡◌, refl, ◌≢◌, Bool, true, false, cond, List, [], ◌∷◌, ℕ, zero, suc, eqb, length, get_or, set}
use Rattle.std.proofs.Common.{sym, ap, ◌∙◌, subst, length-set, Option, Some, None, slice_get}
use Rattle.window.specs.declared.Window.{Window}
use Rattle.window.specs.declared.Cell.{Cell}
use Rattle.window.specs.Windows.{inside}
use Rattle.window.specs.Memories.{Memory, seen, cell_in, cell_at, stored, stored_one, stored_all}
use Rattle.word.proofs.Laws.Bools.{Eq?, same, differ, eq?, clash}

-- what a place holds once v is stored there: nothing where there is no such place
over : ℕ → Option ℕ → Option ℕ
over v None = None
over v (Some x) = Some v

hit : Window → ℕ → ℕ → ℕ → Option ℕ → Option ℕ
hit w i v a x = cond (inside w i) (cond (eqb i a) (over v x) x) x

hit_one : (Cell → ℕ) → Window → Option (ℕ × Cell) → ℕ → Option ℕ → Option ℕ
hit_one f w None a x = x
hit_one f w (Some (i, c)) a x = hit w i (f c) a x

-- what the place a holds after the writes, from what it held before
pub hits : (Cell → ℕ) → Window → List (Option (ℕ × Cell)) → ℕ → Option ℕ → Option ℕ
hits f w [] a x = x
hits f w (y ∷ ys) a x = hits f w ys a (hit_one f w y a x)

at_set_same : (l : List ℕ) (i v : ℕ) → slice_get (set l i v) i ≡ over v (slice_get l i)
unfolding over
at_set_same [] i v = refl
at_set_same (x ∷ l) zero v = refl
at_set_same (x ∷ l) (suc i) v = at_set_same l i v

at_set_other : (l : List ℕ) (i a v : ℕ) → i ≢ a → slice_get (set l i v) a ≡ slice_get l a
at_set_other [] i a v h = refl
at_set_other (x ∷ l) zero zero v h = absurd (h refl)
at_set_other (x ∷ l) zero (suc a) v h = refl
at_set_other (x ∷ l) (suc i) zero v h = refl
at_set_other (x ∷ l) (suc i) (suc a) v h = at_set_other l i a v (λ e. h (ap suc e))

at_set : (l : List ℕ) (i v a : ℕ) → slice_get (set l i v) a ≡ cond (eqb i a) (over v (slice_get l a)) (slice_get l a)
at_set l i v a = go (eqb i a) (eq? i a)
  where
    go : (b : Bool) → Eq? i a b → slice_get (set l i v) a ≡ cond b (over v (slice_get l a)) (slice_get l a)
    go true (same e) = subst (λ (j : ℕ). slice_get (set l i v) j ≡ over v (slice_get l j)) e (at_set_same l i v)
    go false (differ h) = at_set_other l i a v h

at_stored : (w : Window) (i v : ℕ) (l : List ℕ) (a : ℕ) → slice_get (stored w i v l) a ≡ hit w i v a (slice_get l a)
unfolding stored hit
at_stored w i v l a = go (inside w i)
  where
    go : (b : Bool) → slice_get (cond b (set l i v) l) a ≡ cond b (cond (eqb i a) (over v (slice_get l a)) (slice_get l a)) (slice_get l a)
    go true = at_set l i v a
    go false = refl

at_stored_one : (f : Cell → ℕ) (w : Window) (x : Option (ℕ × Cell)) (l : List ℕ) (a : ℕ) → slice_get (stored_one f w x l) a ≡ hit_one f w x a (slice_get l a)
unfolding stored_one hit_one
at_stored_one f w None l a = refl
at_stored_one f w (Some (i, c)) l a = at_stored w i (f c) l a

-- what writes leave at a place is a function of that place alone
pub at_stored_all : (f : Cell → ℕ) (w : Window) (xs : List (Option (ℕ × Cell))) (l : List ℕ) (a : ℕ) → slice_get (stored_all f w xs l) a ≡ hits f w xs a (slice_get l a)
unfolding stored_all hits
at_stored_all f w [] l a = refl
at_stored_all f w (x ∷ xs) l a = at_stored_all f w xs (stored_one f w x l) a ∙ ap (hits f w xs a) (at_stored_one f w x l a)

hit_outside : (w : Window) (i v a : ℕ) (x : Option ℕ) → inside w a ≡ false → hit w i v a x ≡ x
unfolding hit
hit_outside w i v a x out = go (inside w i) refl (eqb i a) (eq? i a)
  where
    go : (b : Bool) → inside w i ≡ b → (d : Bool) → Eq? i a d → cond b (cond d (over v x) x) x ≡ x
    go true e true (same q) = clash (inside w i) e (ap (inside w) q ∙ out)
    go true e false (differ q) = refl
    go false e d q = refl

one_outside : (f : Cell → ℕ) (w : Window) (y : Option (ℕ × Cell)) (a : ℕ) (x : Option ℕ) → inside w a ≡ false → hit_one f w y a x ≡ x
unfolding hit_one
one_outside f w None a x out = refl
one_outside f w (Some (i, c)) a x out = hit_outside w i (f c) a x out

pub hits_outside : (f : Cell → ℕ) (w : Window) (xs : List (Option (ℕ × Cell))) (a : ℕ) (x : Option ℕ) → inside w a ≡ false → hits f w xs a x ≡ x
unfolding hits
hits_outside f w [] a x out = refl
hits_outside f w (y ∷ ys) a x out = hits_outside f w ys a (hit_one f w y a x) out ∙ one_outside f w y a x out

-- no write changes a place outside its window
pub kept_outside : (f : Cell → ℕ) (w : Window) (xs : List (Option (ℕ × Cell))) (l : List ℕ) (a : ℕ) → inside w a ≡ false → slice_get (stored_all f w xs l) a ≡ slice_get l a
kept_outside f w xs l a out = at_stored_all f w xs l a ∙ hits_outside f w xs a (slice_get l a) out

length_stored : (w : Window) (i v : ℕ) (l : List ℕ) → length (stored w i v l) ≡ length l
unfolding stored
length_stored w i v l = go (inside w i)
  where
    go : (b : Bool) → length (cond b (set l i v) l) ≡ length l
    go true = length-set l i v
    go false = refl

length_stored_one : (f : Cell → ℕ) (w : Window) (x : Option (ℕ × Cell)) (l : List ℕ) → length (stored_one f w x l) ≡ length l
unfolding stored_one
length_stored_one f w None l = refl
length_stored_one f w (Some (a, c)) l = length_stored w a (f c) l

pub length_stored_all : (f : Cell → ℕ) (w : Window) (xs : List (Option (ℕ × Cell))) (l : List ℕ) → length (stored_all f w xs l) ≡ length l
unfolding stored_all
length_stored_all f w [] l = refl
length_stored_all f w (x ∷ xs) l = length_stored_all f w xs (stored_one f w x l) ∙ length_stored_one f w x l

-- a task sees only places of its window
from_option : Option ℕ → ℕ
from_option None = 0
from_option (Some x) = x

get_d_at : (l : List ℕ) (a : ℕ) → get_or l a 0 ≡ from_option (slice_get l a)
unfolding from_option
get_d_at [] a = refl
get_d_at (x ∷ l) zero = refl
get_d_at (x ∷ l) (suc a) = get_d_at l a

pub seen_same : (w : Window) (l m : List ℕ) → ((a : ℕ) → inside w a ≡ true → slice_get l a ≡ slice_get m a) → (a : ℕ) → seen w l a ≡ seen w m a
unfolding seen
seen_same w l m h a = go (inside w a) refl
  where
    go : (b : Bool) → inside w a ≡ b → cond b (get_or l a 0) 0 ≡ cond b (get_or m a 0) 0
    go true e = get_d_at l a ∙ ap from_option (h a e) ∙ sym (get_d_at m a)
    go false e = refl

-- in its window a task sees what stands there
pub seen_inside : (w : Window) (l : List ℕ) (a : ℕ) → inside w a ≡ true → seen w l a ≡ get_or l a 0
unfolding seen
seen_inside w l a e = ap (λ (b : Bool). cond b (get_or l a 0) 0) e

pub cell_inside : (w : Window) (m : Memory) (a : ℕ) → inside w a ≡ true → cell_in w m a ≡ cell_at m a
unfolding cell_in cell_at
cell_inside w m a e = λ i. record { tag = seen_inside w m.tags a e i; word = seen_inside w m.words a e i }
