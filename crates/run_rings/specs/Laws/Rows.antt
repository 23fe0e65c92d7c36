-- The rows of a sound state against their numbers.
use Rattle.std.specs.Prelude.{◌≡◌, ◌≢◌, Bool, true, false, cond, ◌||◌, eqb, leb, ltb, min, length, get_or, take, Option, None, Some}
use Rattle.std.proofs.Math.Path.{refl, sym, ap, ap₂}
use Rattle.std.proofs.Common.{◌∙◌, drop_of_length-le, length-take-le, take_all, take-suc, drop-cons, leb-true, leb-false, ltb-true}
use Rattle.std.proofs.lemmas.Bool.{false≢true}
use mathlib.Core.List.{List, [], ◌∷◌, ◌++◌}
use Prim.Native.Nat.{ℕ, suc, ◌+◌, ◌*◌, ◌/◌, ◌≤◌, ◌<◌, ◌^◌}
use native.Mathlib.Omega.{arith}
use Rattle.std.proofs.Math.ListN.{set, drop}
use Rattle.std.proofs.Math.Seq.{append_snoc, set_at, take_at, drop_at}
use Rattle.window.specs.Limits.{most_data}
use Rattle.word.proofs.Laws.Bools.{and_left, and_right}
use Rattle.window.specs.declared.Row.{Row}
use Rattle.window.specs.declared.Window.{Window}
use Rattle.window.specs.Windows.{window_of, register_window, program_window, data_window, data_word_window}
use Rattle.window.specs.Code.Spans.{end_of}
use Rattle.window.specs.Sound.{bits}
use Rattle.step.specs.declared.Queue.{Queue}
use Rattle.step.specs.State.{find_row, queue_in}
use Rattle.step.specs.Soundness.{task_sound, bases_sound, row_sound, rows_sound, has_row, ends_in, row_ends_in, windows_sound, may_hold, queues_sound}
use Rattle.step.proofs.Laws.Rows.{find_here, find_there, here, there, found, find_task, none_some}
use Rattle.step.proofs.Laws.Sound.{found_has_row, has_row_range, nonempty_holds}
use Rattle.run_rings.specs.Code.Records.{with_record, row_in, rows_in, rows_with}
use Rattle.run_rings.specs.Code.Spans.{Narrow}
use Rattle.run_rings.specs.Laws.Records.{Rising, ends, goes}

-- ---- rows in ascending number

task_above : (b : ℕ) (r : Row) (rs : List Row) → rows_sound b (r ∷ rs) ≡ true → (b < r.task) × (r.task ≤ 7)
unfolding rows_sound row_sound task_sound
task_above b r rs e =
    let p : task_sound b r.task ≡ true = and_left (task_sound b r.task) _ (and_left (row_sound b r) (rows_sound r.task rs) e) in
    (ltb-true b r.task (and_left (ltb b r.task) (leb r.task 7) p), leb-true r.task 7 (and_right (ltb b r.task) (leb r.task 7) p))

rows_behind : (b : ℕ) (r : Row) (rs : List Row) → rows_sound b (r ∷ rs) ≡ true → rows_sound r.task rs ≡ true
unfolding rows_sound
rows_behind b r rs e = and_right (row_sound b r) (rows_sound r.task rs) e

pub rising_in : (ks ss : List ℕ) (b : ℕ) (rs : List Row) → rows_sound b (rows_in ks ss rs) ≡ true → Rising b rs
unfolding rows_in
rising_in ks ss b [] e = ends
rising_in ks ss b (r ∷ rs) e =
    goes (task_above b (row_in ks ss r) (rows_in ks ss rs) e).0 (rising_in ks ss r.task rs (rows_behind b (row_in ks ss r) (rows_in ks ss rs) e))

-- numbers that say the records of the rows
pub rows_start : (ks ss : List ℕ) (b : ℕ) (rs : List Row) → rows_sound b rs ≡ true
    → ((t : ℕ) (r : Row) → find_row t rs ≡ Some r → (get_or ks t 0 ≡ r.kind) × (get_or ss t 0 ≡ r.psw)) → rows_in ks ss rs ≡ rs
unfolding rows_in
rows_start ks ss b [] e h = refl
rows_start ks ss b (r ∷ rs) e h =
    let x = h r.task r (find_here r.task r rs refl) in
    ap₂ {C = List Row} (λ y ys. y ∷ ys)
    (ap₂ {C = Row} (λ k p. with_record r k p) x.0 x.1)
    (rows_start ks ss r.task rs (rows_behind b r rs e)
    (λ t q f.
    let l = has_row_range r.task t rs (rows_behind b r rs e) (found_has_row t rs q f) in
    h t q (find_there t r rs (λ s. omega (arith, s, l.0)) ∙ f)))

-- the row that is found among rows with records
pub record Listed (ks ss : List ℕ) (t : ℕ) (rs : List Row) (x : Row) : Type 0 where
  pub row : Row
  pub finds : find_row t rs ≡ Some row
  pub is : x ≡ row_in ks ss row

pub listed : (ks ss : List ℕ) (t : ℕ) (rs : List Row) (x : Row) → find_row t (rows_in ks ss rs) ≡ Some x → Listed ks ss t rs x
unfolding rows_in
listed ks ss t [] x e = absurd (none_some x (unfold find_row in e))
listed ks ss t (y ∷ rs) x e =
    elim (found t x (row_in ks ss y) (rows_in ks ss rs) e) [
      | here q p ↦ record { row = y; finds = find_here t y rs q; is = sym p }
      | there q k ↦
          let l = listed ks ss t rs x k in
          record { row = l.row; finds = find_there t y rs q ∙ l.finds; is = l.is }
    ]

pub listed_kind : (ks ss : List ℕ) (t : ℕ) (rs : List Row) (x : Row) → Listed ks ss t rs x → x.kind ≡ get_or ks t 0
listed_kind ks ss t rs x l = ap (λ (r : Row). r.kind) l.is ∙ ap (λ (u : ℕ). get_or ks u 0) (find_task t rs l.row l.finds)

-- ---- a task with processes is listed

pub has_none : (t : ℕ) (rs : List Row) → find_row t rs ≡ None → has_row t rs ≡ false
unfolding has_row find_row
has_none t [] e = refl
has_none t (r ∷ rs) e = go (eqb r.task t) (λ f. has_none t rs f) e
  where
    go : (b : Bool) → (find_row t rs ≡ None → has_row t rs ≡ false) → cond b (Some r) (find_row t rs) ≡ None → b || has_row t rs ≡ false
    go true ih e = absurd (none_some r (sym e))
    go false ih e = ih e

-- the row of a task with processes
pub record Row-of (t : ℕ) (rs : List Row) : Type 0 where
  pub row : Row
  pub finds : find_row t rs ≡ Some row

-- of which queue k holds one
pub live_row : (rows : List Row) (t k : ℕ) (qs : List Queue) → queues_sound rows 0 qs ≡ true → k < length qs → k / 2 ≡ t → (queue_in qs k).len ≢ 0 → Row-of t rows
unfolding may_hold
live_row rows t k qs e l u n = go (find_row t rows) refl
  where
    go : (o : Option Row) → find_row t rows ≡ o → Row-of t rows
    go None f =
        let s : k + 0 ≡ k = omega arith in
        absurd (false≢true (sym (has_none t rows f) ∙ ap (λ (u : ℕ). has_row u rows) (sym u) ∙ ap (may_hold rows) (sym s) ∙ nonempty_holds rows 0 qs e k l n))
    go (Some r) f = record { row = r; finds = f }

-- ---- the numbers of a sound row fit in 32 bits

end_small : (w : Window) → (w.first ≤ w.last → w.last < 4294967295) → end_of w < 4294967296
unfolding end_of
end_small w h = go (leb w.first w.last) refl
  where
    go : (b : Bool) → leb w.first w.last ≡ b → cond b (suc w.last) 0 < 4294967296
    go true e = omega (arith, h (leb-true w.first w.last e))
    go false e = omega arith

narrow : (b nr np nd : ℕ) (r : Row) → row_sound b r ≡ true → row_ends_in nr np nd r ≡ true → nd ≤ most_data → Narrow r
unfolding row_sound bases_sound row_ends_in ends_in register_window program_window data_window data_word_window window_of bits
narrow b nr np nd r e w h =
    let x : bases_sound r ≡ true = and_left (bases_sound r) _ (and_right (task_sound b r.task) _ e) in
    let y = and_right (bits 10 r.rl) _ (and_right (bits 10 r.rb) _ (and_right (bits 12 r.cb) _ x)) in
    let z = and_right (bits 16 r.pl) _ (and_right (bits 16 r.pb) _ y) in
    let v = and_right (ends_in (program_window r) np) _ (and_right (ends_in (register_window r) nr) _ w) in
    let w₁ : (window_of 1 r.rb r.rl).first < 4294967296 = omega (arith, ltb-true r.rb (2 ^ 10) (and_left (bits 10 r.rb) _ (and_right (bits 12 r.cb) _ x))) in
    record {
      registers = record { first = w₁; past = end_small _ (λ l. omega (arith, ltb-true r.rl (2 ^ 10) (and_left (bits 10 r.rl) _ (and_right (bits 10 r.rb) _ (and_right (bits 12 r.cb) _ x))))) };
      program = record { first = omega (arith, ltb-true r.pb (2 ^ 16) (and_left (bits 16 r.pb) _ y)); past = end_small _ (λ l. omega (arith, ltb-true r.pl (2 ^ 16) (and_left (bits 16 r.pl) _ (and_right (bits 16 r.pb) _ y)))) };
      bytes = record { first = omega (arith, ltb-true r.db (2 ^ 24) (and_left (bits 24 r.db) _ z)); past = end_small _ (λ l. go (ltb (r.dl * 32 + 31) (r.db * 32)) refl (omega (arith, l)) v) };
    }
  where
    go : (t : Bool) → ltb (r.dl * 32 + 31) (r.db * 32) ≡ t → r.db ≤ r.dl → t || ltb (r.dl * 32 + 31) nd ≡ true → r.dl * 256 + 255 < 4294967295
    go true q l p = absurd (omega (arith, ltb-true (r.dl * 32 + 31) (r.db * 32) q, l))
    go false q l p = omega (arith, ltb-true (r.dl * 32 + 31) nd p, h)

pub narrow_row : (b nr np nd t : ℕ) (rs : List Row) (r : Row) → rows_sound b rs ≡ true → windows_sound nr np nd rs ≡ true → nd ≤ most_data → find_row t rs ≡ Some r → Narrow r
unfolding rows_sound windows_sound
narrow_row b nr np nd t [] r e w h f = absurd (none_some r (unfold find_row in f))
narrow_row b nr np nd t (y ∷ rs) r e w h f =
    let x : Narrow y = narrow b nr np nd y (and_left (row_sound b y) _ e) (and_left (row_ends_in nr np nd y) _ w) h in
    elim (found t r y rs f) [
      | here q p ↦ rw (← p) x
      | there q k ↦ narrow_row y.task nr np nd t rs r (and_right (row_sound b y) _ e) (and_right (row_ends_in nr np nd y) _ w) h k
    ]

-- ---- rows with their records one by one, the first i of an array having theirs

length_rows : (ks ss : List ℕ) (rs : List Row) → length (rows_in ks ss rs) ≡ length rs
unfolding rows_in
length_rows ks ss [] = refl
length_rows ks ss (r ∷ rs) = ap suc (length_rows ks ss rs)

rows_append : (ks ss : List ℕ) (rs qs : List Row) → rows_in ks ss (rs ++ qs) ≡ rows_in ks ss rs ++ rows_in ks ss qs
unfolding rows_in
rows_append ks ss [] qs = refl
rows_append ks ss (r ∷ rs) qs = ap (λ (l : List Row). row_in ks ss r ∷ l) (rows_append ks ss rs qs)

module _ (ks ss : List ℕ) (rows : List Row) where
  pub with_none : rows ≡ rows_with ks ss rows 0
  unfolding rows_in rows_with
  with_none = refl

  with_length : (i : ℕ) → i ≤ length rows → length (rows_in ks ss (take i rows)) ≡ i
  with_length i h = length_rows ks ss (take i rows) ∙ length-take-le i rows h

  pub with_next : (i : ℕ) (d : Row) (next : List Row) → i < length rows → next ≡ rows_with ks ss rows i → set next i (row_in ks ss (get_or rows i d)) ≡ rows_with ks ss rows (i + 1)
  unfolding rows_in rows_with
  with_next i d next h e =
      let s : suc i ≡ i + 1 = omega arith in
      ap (λ (l : List Row). set l i (row_in ks ss (get_or rows i d))) (e ∙ ap (λ (l : List Row). rows_in ks ss (take i rows) ++ l) (drop-cons rows i d h))
      ∙ set_at (rows_in ks ss (take i rows)) (get_or rows i d) (drop (suc i) rows) (row_in ks ss (get_or rows i d)) i (with_length i (omega (arith, h)))
      ∙ sym (append_snoc (rows_in ks ss (take i rows)) (row_in ks ss (get_or rows i d)) (drop (suc i) rows))
      ∙ ap (λ (l : List Row). l ++ drop (suc i) rows) (sym (rows_append ks ss (take i rows) (get_or rows i d ∷ [])) ∙ ap (rows_in ks ss) (sym (take-suc rows i d h)))
      ∙ ap (rows_with ks ss rows) s

  -- past the last row
  pub with_all : (i n : ℕ) → length rows ≤ i → length rows ≤ n → rows_with ks ss rows i ≡ rows_with ks ss rows n
  unfolding rows_with
  with_all i n h k =
      ap₂ {C = List Row} (λ x y. rows_in ks ss x ++ y)
      (take_all i rows h ∙ sym (take_all n rows k))
      (drop_of_length-le rows h ∙ sym (drop_of_length-le rows k))

  -- up to the nth, of which there may be fewer
  pub with_first : (i n : ℕ) → i ≡ min n (length rows) → rows_with ks ss rows i ≡ rows_with ks ss rows n
  unfolding rows_with
  with_first i n e = go (leb n (length rows)) refl
    where
      go : (b : Bool) → leb n (length rows) ≡ b → rows_in ks ss (take i rows) ++ drop i rows ≡ rows_in ks ss (take n rows) ++ drop n rows
      go true q = let s : i ≡ n = omega (arith, e, leb-true n (length rows) q) in ap (λ (n : ℕ). rows_in ks ss (take n rows) ++ drop n rows) s
      go false q =
          let h : length rows ≤ n = omega (arith, leb-false n (length rows) q) in
          let k : length rows ≤ i = omega (arith, e, leb-false n (length rows) q) in
          ap₂ {C = List Row} (λ x y. rows_in ks ss x ++ y)
          (take_all i rows k ∙ sym (take_all n rows h))
          (drop_of_length-le rows k ∙ sym (drop_of_length-le rows h))

  pub with_take : (n : ℕ) (next : List Row) → n ≤ length rows → next ≡ rows_with ks ss rows n → take n next ≡ rows_in ks ss (take n rows)
  unfolding rows_with
  with_take n next h e = ap (take n) e ∙ take_at (rows_in ks ss (take n rows)) (drop n rows) n (with_length n h)

  pub with_drop : (n : ℕ) (next : List Row) → n ≤ length rows → next ≡ rows_with ks ss rows n → drop n next ≡ drop n rows
  unfolding rows_with
  with_drop n next h e = ap (drop n) e ∙ drop_at (rows_in ks ss (take n rows)) (drop n rows) n (with_length n h)
