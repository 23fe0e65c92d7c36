-- The loops over rows and queues: a turn, and the ends.
use Prim.Native.Nat.{ℕ, suc, ◌+◌, ◌-◌, ◌*◌, ◌≤◌, ◌<◌}
use mathlib.Core.Path.{◌≡◌, refl, sym, ap, ap₂, ◌∙◌}
use mathlib.Core.Bool.{Bool, true, false, ◌&&◌, ◌||◌}
use mathlib.Core.List.{List, [], ◌∷◌, ◌++◌}
use native.Mathlib.Omega.{arith}
use native.Mathlib.Numerals.{add-one}
use lib.ListN.{length, get_or, take, drop, length-take, length-append, drop_of_length-le}
use lib.Seq.{drop-cons, get_or-take}
use lib.Dec.{eqb}
use borrow.Author.Tests.{eq-eqb, ne_eqb}
use Rattle.std.proofs.Math.Bool.{and-false}
use Rattle.std.specs.List.{list_any, list_all}
use Rattle.word.proofs.Laws.Bools.{Eq?, same, differ, eq?}
use Rattle.window.specs.declared.Row.{Row}
use Rattle.step.specs.declared.Queue.{Queue}
use Rattle.step.specs.Queues.{list_of, live_pts, live_counts, live_total}
use Rattle.step.specs.Soundness.{row_sound, rows_sound, has_row, row_ends_in, windows_sound, queues_sound, alike}
use Rattle.step_soundness.specs.Code.Held.{queue_sound}
use Rattle.step.proofs.Laws.Queues.{length_list}

-- ---- the elements of a list from the ith on

module _ {A : Type 0} (l : List A) (i : ℕ) where
  pub next_of_lem : (d : A) → i < length l → drop i l ≡ get_or l i d ∷ drop (i + 1) l
  next_of_lem d h = let m : suc i ≡ i + 1 = omega arith in drop-cons l i d h ∙ ap (λ (j : ℕ). get_or l i d ∷ drop j l) m

  pub none_of : length l ≤ i → drop i l ≡ []
  none_of h = drop_of_length-le l h

-- two at a time
pub two_of : {A : Type 0} (l : List A) (i : ℕ) (d : A) → 2 * i + 1 < length l → drop (2 * i) l ≡ get_or l (2 * i) d ∷ get_or l (2 * i + 1) d ∷ drop (2 * (i + 1)) l
two_of {A} l i d h =
    let m : 2 * i + 1 + 1 ≡ 2 * (i + 1) = omega arith in
    next_of_lem l (2 * i) d (omega (arith, h)) ∙ ap (λ (r : List A). get_or l (2 * i) d ∷ r) (next_of_lem l (2 * i + 1) d h)
    ∙ ap (λ (j : ℕ). get_or l (2 * i) d ∷ get_or l (2 * i + 1) d ∷ drop j l) m

-- of the first n
module _ {A : Type 0} (l : List A) (n i : ℕ) where
  pub next_in : (d : A) → i < n → i < length l → drop i (take n l) ≡ get_or l i d ∷ drop (i + 1) (take n l)
  next_in d h k =
      let m : i < length (take n l) = rw length-take (omega arith) in
      next_of_lem (take n l) i d m ∙ ap (λ (x : A). x ∷ drop (i + 1) (take n l)) (get_or-take n l i d h)

  pub past_count : n ≤ i → drop i (take n l) ≡ []
  past_count h = let m : length (take n l) ≤ i = rw length-take (omega arith) in none_of (take n l) i m

-- ---- a test of every element, which may depend on a state that the elements before it have led to

pub record Tested {S A : Type 0} (all : S → List A → Bool) : Type 0 where
  pub test : S → A → Bool
  pub next : S → A → S
  pub nil : (s : S) → all s [] ≡ true
  pub cons : (s : S) (x : A) (l : List A) → all s (x ∷ l) ≡ test s x && all (next s x) l

module _ {S A : Type 0} {all : S → List A → Bool} (t : Tested all) where
  pub goes : {s : S} {x : A} {l l' : List A} {w : Bool} → l ≡ x ∷ l' → t.test s x ≡ true → all s l ≡ w → all (t.next s x) l' ≡ w
  goes {s} {x} {l} {l'} d e i = sym (ap (all s) d ∙ t.cons s x l' ∙ ap (λ (b : Bool). b && all (t.next s x) l') e) ∙ i

  pub fails : {s : S} {x : A} {l l' : List A} {w : Bool} → l ≡ x ∷ l' → t.test s x ≡ false → all s l ≡ w → false ≡ w
  fails {s} {x} {l} {l'} d e i = sym (ap (all s) d ∙ t.cons s x l' ∙ ap (λ (b : Bool). b && all (t.next s x) l') e) ∙ i

  pub ends : {s : S} {l : List A} {w : Bool} → l ≡ [] → all s l ≡ w → true ≡ w
  ends {s} d i = sym (ap (all s) d ∙ t.nil s) ∙ i

pub rows_nil : (before : ℕ) → rows_sound before [] ≡ true
unfolding rows_sound
rows_nil before = refl

pub rows_cons : (before : ℕ) (r : Row) (rs : List Row) → rows_sound before (r ∷ rs) ≡ row_sound before r && rows_sound r.task rs
unfolding rows_sound
rows_cons before r rs = refl

abbrev pub rows_tested : Tested rows_sound
rows_tested = record { test = row_sound; next = λ before r. r.task; nil = rows_nil; cons = rows_cons }

pub queues_nil : (rows : List Row) (t : ℕ) → queues_sound rows t [] ≡ true
unfolding queues_sound
queues_nil rows t = refl

pub queues_cons : (rows : List Row) (t : ℕ) (q : Queue) (qs : List Queue) → queues_sound rows t (q ∷ qs) ≡ queue_sound rows t q && queues_sound rows (t + 1) qs
unfolding queues_sound queue_sound
queues_cons rows t q qs = ap (λ (k : ℕ). queue_sound rows t q && queues_sound rows k qs) (sym (add-one t))

abbrev pub queues_tested : (rows : List Row) → Tested (queues_sound rows)
queues_tested rows = record { test = queue_sound rows; next = λ t q. t + 1; nil = queues_nil rows; cons = queues_cons rows }

-- ---- a test of every row, and of any

pub has_any : (t : ℕ) (rows : List Row) → list_any (λ (r : Row). eqb r.task t) rows ≡ has_row t rows
unfolding has_row
has_any t [] = refl
has_any t (r ∷ rs) = ap (λ (b : Bool). eqb r.task t || b) (has_any t rs)

pub windows_all : (registers program data_words : ℕ) (rows : List Row)
    → list_all (row_ends_in registers program data_words) rows ≡ windows_sound registers program data_words rows
unfolding windows_sound
windows_all nr np nd [] = refl
windows_all nr np nd (r ∷ rs) = ap (λ (b : Bool). row_ends_in nr np nd r && b) (windows_all nr np nd rs)

-- ---- the live counts and what is left of their total

-- the counts l are those of the queues, and n is their total
unfoldable pub tested : (l : List ℕ) → List Queue → (n : ℕ) → Bool
tested l qs n = alike l (live_counts qs) && eqb n (live_total qs)

-- a total less its first part
rest_eqb : (n m k : ℕ) → m ≤ n → eqb n (m + k) ≡ eqb (n - m) k
rest_eqb n m k h = go (eqb (n - m) k) (eq? (n - m) k)
  where
    go : (b : Bool) → Eq? (n - m) k b → eqb n (m + k) ≡ b
    go true (same e) = eq-eqb n (m + k) (omega (arith, e, h))
    go false (differ d) = ne_eqb n (m + k) (λ e. d (omega (arith, e)))

module _ {x : ℕ} {l l' : List ℕ} {q p : Queue} {qs qs' : List Queue} (n : ℕ) {w : Bool} (d : l ≡ x ∷ l') (d' : qs ≡ q ∷ p ∷ qs') (i : tested l qs n ≡ w) where
  first_told : (eqb x (q.len + p.len) && alike l' (live_counts qs')) && eqb n (q.len + (p.len + live_total qs')) ≡ w
  unfolding tested alike live_counts live_total live_pts
  first_told =
      rw (← length_list q, ← length_list p, ← length-append (list_of p) (live_pts qs'), ← length-append (list_of q) (list_of p ++ live_pts qs'))
      (sym (ap₂ (λ (l : List ℕ) (qs : List Queue). tested l qs n) d d') ∙ i)

  -- another count; more processes than are left
  pub count_differs : (x ≡ q.len + p.len → ⊥) → false ≡ w
  count_differs e =
      sym (ap (λ (b : Bool). (b && alike l' (live_counts qs')) && eqb n (q.len + (p.len + live_total qs'))) (ne_eqb x (q.len + p.len) e)) ∙ first_told

  pub count_over : n < q.len + p.len → false ≡ w
  count_over h =
      sym (ap (λ (b : Bool). (eqb x (q.len + p.len) && alike l' (live_counts qs')) && b) (ne_eqb n (q.len + (p.len + live_total qs')) (λ e. omega (arith, e, h)))
      ∙ and-false (eqb x (q.len + p.len) && alike l' (live_counts qs')))
      ∙ first_told

  pub count_goes : x ≡ q.len + p.len → x ≤ n → tested l' qs' (n - x) ≡ w
  unfolding tested
  count_goes e h =
      let a : q.len + (p.len + live_total qs') ≡ x + live_total qs' = omega (arith, e) in
      sym (ap₂ (λ (a b : Bool). (a && alike l' (live_counts qs')) && b) (eq-eqb x (q.len + p.len) e) (ap (eqb n) a ∙ rest_eqb n x (live_total qs') h)) ∙ first_told

pub count_ends : {l : List ℕ} {qs : List Queue} (n : ℕ) {w : Bool} → l ≡ [] → qs ≡ [] → tested l qs n ≡ w → eqb n 0 ≡ w
unfolding tested alike live_counts live_total live_pts
count_ends n d d' i = sym (ap₂ (λ (l : List ℕ) (qs : List Queue). tested l qs n) d d') ∙ i
