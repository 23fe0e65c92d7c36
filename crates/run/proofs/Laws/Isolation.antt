-- Isolation of a set of tasks over two whole runs, from what is compared of each task. For any instruction set.
use Rattle.std.specs.Prelude.{◌≡◌, refl, Bool, true, false, List, [], ◌∷◌, ℕ, zero, suc, ◌+◌, ◌-◌, ◌≤◌, ◌<◌, length, take, drop, replicate, leb}
use Rattle.std.proofs.Common.{sym, ap₂, ◌∙◌, true≢false, zero-add, suc-add, le_of_suc-le-suc, not-suc-le-zero, arith, eq-eqb, ne_eqb, eqb-true, Option, None, Some, slice_get}
use Rattle.std.proofs.Math.Path.{ap, subst, subst₂}
use Rattle.std.proofs.Math.Dec.{eqb}
use Rattle.std.proofs.lemmas.Bool.{eqb-false}
use Rattle.word.proofs.Laws.Bools.{Le?, below, above, le?, clash}
use Rattle.window.specs.declared.Row.{Row}
use Rattle.window.specs.declared.Window.{Window}
use Rattle.window.specs.Windows.{inside, meets, program_window}
use Rattle.window.proofs.Laws.Windows.{In, in_of, of_in, meeting}
use Rattle.window.specs.Memories.{Memory, memory}
use Rattle.operation.specs.Environment.{Environment}
use Rattle.operation.specs.declared.Decision.{Decision}
use Rattle.operation.specs.Decide.{decide}
use Rattle.step.specs.Queues.{occ, hit}
use Rattle.step.proofs.Laws.Occurrences.{occ_nil, occ_cons, hit_same, hit_differ}
use Rattle.step.specs.State.{State, find_row}
use Rattle.step.specs.Step.{Account}
use Rattle.step.proofs.Laws.Rows.{some_inj, none_some}
use Rattle.step.proofs.Laws.Act.{fixed, fixed_of, fixed_at, Inv}
use Rattle.step.proofs.Laws.Step.{Part, register_tags, register_words, data_tags, data_values, list_in, window_in, window_fixed}
use Rattle.step.proofs.Laws.Agreement.{Agree}
use Rattle.step.proofs.Laws.Agreement as agreement
use Rattle.run.specs.Run.{Tally, own_counts, no_tally, tallied, run_by, run}
use Rattle.run.proofs.Laws.Run.{after, run_after}
use Rattle.run.proofs.Laws.Tallies.{counted_for, counted_other, own_run, past_run}
use Rattle.run.proofs.Laws.RunAgreement.{only, only_nil, only_in, only_out, Alike, runs_alike}
use Rattle.run.specs.Compared.{cut, memory_in, Compared, SameProgram, SameConstants, Clear, Alone}

-- ---- a part cut out of a list, and its places

module _ {A : Type 0} where
  ext? : (k l : List A) → ((i : ℕ) → slice_get k i ≡ slice_get l i) → k ≡ l
  ext? [] [] h = refl
  ext? [] (y ∷ l) h = absurd (none_some y (h zero))
  ext? (x ∷ k) [] h = absurd (none_some x (sym (h zero)))
  ext? (x ∷ k) (y ∷ l) h = ap₂ {C = List A} (λ a b. a ∷ b) (some_inj x y (h zero)) (ext? k l (λ i. h (suc i)))

  at_drop : (n : ℕ) (l : List A) (i : ℕ) → slice_get (drop n l) i ≡ slice_get l (n + i)
  at_drop zero l i = ap (slice_get l) (sym (zero-add i))
  at_drop (suc n) [] i = refl
  at_drop (suc n) (x ∷ l) i = at_drop n l i ∙ ap (slice_get (x ∷ l)) (sym (suc-add n i))

  at_take : (n : ℕ) (l : List A) (i : ℕ) → i < n → slice_get (take n l) i ≡ slice_get l i
  at_take zero l i h = absurd (not-suc-le-zero h)
  at_take (suc n) [] i h = refl
  at_take (suc n) (x ∷ l) zero h = refl
  at_take (suc n) (x ∷ l) (suc i) h = at_take n l i (le_of_suc-le-suc h)

  at_take_past : (n : ℕ) (l : List A) (i : ℕ) → n ≤ i → slice_get (take n l) i ≡ None
  at_take_past zero l i h = refl
  at_take_past (suc n) [] i h = refl
  at_take_past (suc n) (x ∷ l) zero h = absurd (not-suc-le-zero h)
  at_take_past (suc n) (x ∷ l) (suc i) h = at_take_past n l i (le_of_suc-le-suc h)

cut_at : (w : Window) (l : List ℕ) (a : ℕ) → In w a → slice_get (cut w l) (a - w.first) ≡ slice_get l a
unfolding cut
cut_at w l a i =
    at_drop w.first (take (suc w.last) l) (a - w.first)
    ∙ ap (slice_get (take (suc w.last) l)) (omega (arith, i.from))
    ∙ at_take (suc w.last) l a (omega (arith, i.to))

cells_of_cut : (w : Window) (k l : List ℕ) → cut w k ≡ cut w l → (a : ℕ) → inside w a ≡ true → slice_get k a ≡ slice_get l a
cells_of_cut w k l e a i =
    sym (cut_at w k a (in_of w a i)) ∙ ap (λ (m : List ℕ). slice_get m (a - w.first)) e ∙ cut_at w l a (in_of w a i)

cut_of_cells : (w : Window) (k l : List ℕ) → ((a : ℕ) → inside w a ≡ true → slice_get k a ≡ slice_get l a) → cut w k ≡ cut w l
unfolding cut
cut_of_cells w k l h =
    ext? (cut w k) (cut w l)
    (λ i.
    at_drop w.first (take (suc w.last) k) i
    ∙ go i (leb (suc w.last) (w.first + i)) (le? (suc w.last) (w.first + i))
    ∙ sym (at_drop w.first (take (suc w.last) l) i))
  where
    go : (i : ℕ) (b : Bool) → Le? (suc w.last) (w.first + i) b
        → slice_get (take (suc w.last) k) (w.first + i) ≡ slice_get (take (suc w.last) l) (w.first + i)
    go i true (below p) = at_take_past (suc w.last) k (w.first + i) p ∙ sym (at_take_past (suc w.last) l (w.first + i) p)
    go i false (above p) =
        at_take (suc w.last) k (w.first + i) p
        ∙ h (w.first + i) (of_in w (w.first + i) (record { from = omega arith; to = omega arith }))
        ∙ sym (at_take (suc w.last) l (w.first + i) p)

-- ---- the row of a task and its fixed part

row_of_lem : (t : ℕ) (s : State) (c : Row) → fixed_at t s ≡ Some c → (r : Row) × (find_row t s.rows ≡ Some r) × (fixed r ≡ c)
unfolding fixed_at
row_of_lem t s c e = go (find_row t s.rows) refl e
  where
    go : (o : Option Row) → find_row t s.rows ≡ o → fixed_of o ≡ Some c → (r : Row) × (find_row t s.rows ≡ Some r) × (fixed r ≡ c)
    go None f k = absurd (none_some c k)
    go (Some r) f k = (r, f, some_inj (fixed r) c k)

fixed_of_lem : (t : ℕ) (s : State) (r : Row) → find_row t s.rows ≡ Some r → fixed_at t s ≡ Some (fixed r)
unfolding fixed_at
fixed_of_lem t s r e = ap fixed_of e

-- the windows of two rows with one fixed part are the same
window_of_lem : (m : Part) (r c : Row) → fixed r ≡ c → window_in m c ≡ window_in m r
window_of_lem m r c e = ap (window_in m) (sym e) ∙ window_fixed m r

program_of : (r c : Row) → fixed r ≡ c → program_window c ≡ program_window r
unfolding program_window
program_of r c e = ap program_window (sym e)

-- ---- what is compared, and agreement place by place

module _ (t : ℕ) (s s' : State) (c : Compared t s s') (r : Row) (e : find_row t s.rows ≡ Some r) where
  cut_same : (m : Part) → cut (window_in m r) (list_in m s) ≡ cut (window_in m r) (list_in m s')
  unfolding memory_in
  cut_same register_tags = ap (λ (x : Memory). x.tags) (c.registers r e)
  cut_same register_words = ap (λ (x : Memory). x.words) (c.registers r e)
  cut_same data_tags = ap (λ (x : Memory). x.tags) (c.data_words r e)
  cut_same data_values = ap (λ (x : Memory). x.words) (c.data_words r e)

agree_of : (A : ℕ → Bool) (s s' : State) → ((t : ℕ) → A t ≡ true → Compared t s s') → ((t : ℕ) → A t ≡ true → SameProgram t s s') → SameConstants s s'
    → Agree A s s'
agree_of A s s' h p k = record {
  owns = λ t m. (h t m).owned;
  constants = k;
  cells = λ x t m c e a i.
      let q : _ = row_of_lem t s c e in
      cells_of_cut (window_in x q.0) (list_in x s) (list_in x s') (cut_same t s s' (h t m) q.0 q.1 x) a
      (ap (λ (w : Window). inside w a) (sym (window_of_lem x q.0 c q.2)) ∙ i);
  code = λ t m c e a i.
      let q : _ = row_of_lem t s c e in
      cells_of_cut (program_window q.0) s.program s'.program (p t m q.0 q.1) a
      (ap (λ (w : Window). inside w a) (sym (program_of q.0 c q.2)) ∙ i);
}

compared_of : (A : ℕ → Bool) (s s' : State) → Agree A s s' → (t : ℕ) → A t ≡ true → Compared t s s'
unfolding memory_in
compared_of A s s' g t m = record {
  owned = g.owns t m;
  registers = λ r e i. memory (part register_tags r e i) (part register_words r e i);
  data_words = λ r e i. memory (part data_tags r e i) (part data_values r e i);
}
  where
    part : (x : Part) (r : Row) → find_row t s.rows ≡ Some r → cut (window_in x r) (list_in x s) ≡ cut (window_in x r) (list_in x s')
    part x r e =
        cut_of_cells (window_in x r) (list_in x s) (list_in x s')
        (λ a i. g.cells x t m (fixed r) (fixed_of_lem t s r e) a (ap (λ (w : Window). inside w a) (window_fixed x r) ∙ i))

-- windows that do not meet share no address
clear : (v w : Window) → meets v w ≡ false → (a : ℕ) → inside v a ≡ true → inside w a ≡ false
clear v w e a i = go (inside w a) refl
  where
    go : (b : Bool) → inside w a ≡ b → inside w a ≡ false
    go true k = clash (meets v w) (meeting v w a i k) e
    go false k = k

-- the register and data windows of the tasks of A meet none of a task outside A
abbrev Apart : (ℕ → Bool) → State → Type 0
Apart A s = (t u : ℕ) → A t ≡ true → A u ≡ false → Clear t u s

apart_of : (A : ℕ → Bool) (s : State) → Apart A s → agreement.Apart A s
apart_of A s k = record {
  windows = λ m t u i o c d e f a j.
      let q : _ = row_of_lem t s c e in
      let p : _ = row_of_lem u s d f in
      ap (λ (w : Window). inside w a) (window_of_lem m p.0 d p.2)
      ∙ clear (window_in m q.0) (window_in m p.0) (unmet m t u i o q.0 p.0 q.1 p.1) a (ap (λ (w : Window). inside w a) (sym (window_of_lem m q.0 c q.2)) ∙ j);
}
  where
    unmet : (m : Part) (t u : ℕ) → A t ≡ true → A u ≡ false → (r x : Row) → find_row t s.rows ≡ Some r → find_row u s.rows ≡ Some x
        → meets (window_in m r) (window_in m x) ≡ false
    unmet register_tags t u i o r x e f = (k t u i o).registers r x e f
    unmet register_words t u i o r x e f = (k t u i o).registers r x e f
    unmet data_tags t u i o r x e f = (k t u i o).data_words r x e f
    unmet data_values t u i o r x e f = (k t u i o).data_words r x e f

-- ---- two runs

-- a set A of tasks that may share windows among themselves
module _ (instructions : Environment → Decision) (A : ℕ → Bool) (ts us : List ℕ) (s s' : State)
    (inv : Inv s) (inv' : Inv s') (apart : Apart A s) (apart' : Apart A s')
    (h : (t : ℕ) → A t ≡ true → Compared t s s') (p : (t : ℕ) → A t ≡ true → SameProgram t s s') (k : SameConstants s s')
    (e : only A ts ≡ only A us) (z : (after instructions ts s).table.users.flag ≡ 0) (z' : (after instructions us s').table.users.flag ≡ 0) where
  alike : {N : Type 0} (note : ℕ → Account → N → N) (blind : (u : ℕ) (x : Account) (n : N) → A u ≡ false → note u x n ≡ n) (n : N) → Alike instructions A note blind ts us s s' n
  alike note blind n =
      runs_alike instructions A note blind ts us s s' n e (record { inv = inv; apart = apart_of A s apart; down = z })
      (record { inv = inv'; apart = apart_of A s' apart'; down = z' }) (agree_of A s s' h p k)

  pub isolation_of_set : (t : ℕ) → A t ≡ true → Compared t (after instructions ts s) (after instructions us s')
  isolation_of_set = compared_of A (after instructions ts s) (after instructions us s') (alike (λ u x (n : ℕ). n) (λ u x n m. refl) 0).agree

  -- whatever is taken down of the items of A alone is the same
  pub same_notes : {N : Type 0} (note : ℕ → Account → N → N) → ((u : ℕ) (x : Account) (n : N) → A u ≡ false → note u x n ≡ n) → (n : N)
      → (run_by instructions note ts s n).notes ≡ (run_by instructions note us s' n).notes
  same_notes note blind n = (alike note blind n).noted

  -- so are the counts of each task of A
  pub same_own : (t : ℕ) → A t ≡ true → (n : Tally)
      → own_counts t (run_by instructions tallied ts s n).notes ≡ own_counts t (run_by instructions tallied us s' n).notes
  same_own t m n = go (leb (length n.own) t) (le? (length n.own) t)
    where
      go : (b : Bool) → Le? (length n.own) t b → own_counts t (run_by instructions tallied ts s n).notes ≡ own_counts t (run_by instructions tallied us s' n).notes
      go true (below q) = past_run instructions t ts s n q ∙ sym (past_run instructions t us s' n q)
      go false (above q) =
          own_run instructions t ts s n q
          ∙ same_notes (counted_for t) (λ u x c o. counted_other t u x c (ne_eqb u t (λ f. true≢false (sym m ∙ ap A (sym f) ∙ o)))) (own_counts t n)
          ∙ sym (own_run instructions t us s' n q)

-- ---- one task

-- the flag after a run
pub down_after : (ts : List ℕ) (s : State) → (run ts s).state.table.users.flag ≡ 0 → (after decide ts s).table.users.flag ≡ 0
unfolding run
down_after ts s z = ap (λ (x : State). x.table.users.flag) (sym (run_after decide tallied ts s no_tally)) ∙ z

-- the schedule without the other tasks' items says how many items it has of this one
only_one : (t : ℕ) (ts : List ℕ) → only (λ u. eqb u t) ts ≡ replicate (occ t ts) t
only_one t [] = only_nil (λ u. eqb u t) ∙ ap (λ (n : ℕ). replicate n t) (sym (occ_nil t))
only_one t (u ∷ ts) = go (eqb u t) refl (only_one t ts)
  where
    go : (b : Bool) → eqb u t ≡ b → only (λ u. eqb u t) ts ≡ replicate (occ t ts) t → only (λ u. eqb u t) (u ∷ ts) ≡ replicate (occ t (u ∷ ts)) t
    go true m ih =
        let q : u ≡ t = eqb-true u t m in
        let o : hit t u ≡ 1 = ap (hit t) q ∙ hit_same t in
        let k : suc (occ t ts) ≡ occ t (u ∷ ts) = omega (arith, occ_cons t u ts) in
        only_in (λ u. eqb u t) u ts m ∙ ap₂ {C = List ℕ} (λ x xs. x ∷ xs) q ih ∙ ap (λ (n : ℕ). replicate n t) k
    go false m ih =
        let o : hit t u ≡ 0 = hit_differ t u (λ e. eqb-false u t m (sym e)) in
        let k : occ t ts ≡ occ t (u ∷ ts) = omega (arith, occ_cons t u ts) in
        only_out (λ u. eqb u t) u ts m ∙ ih ∙ ap (λ (n : ℕ). replicate n t) k

pub apart_of_alone : (t : ℕ) (s : State) → Alone t s → Apart (λ u. eqb u t) s
apart_of_alone t s k v u m n = subst (λ (y : ℕ). Clear y u s) (sym (eqb-true v t m)) (k u (eqb-false u t n))

-- as many items of a task: without the others the schedules are the same list
pub same_items : (t : ℕ) (ts us : List ℕ) → occ t ts ≡ occ t us → only (λ u. eqb u t) ts ≡ only (λ u. eqb u t) us
same_items t ts us n = only_one t ts ∙ ap (λ (m : ℕ). replicate m t) n ∙ sym (only_one t us)

-- the set with one member
module _ (t : ℕ) (ts us : List ℕ) (s s' : State) (inv : Inv s) (inv' : Inv s') (alone : Alone t s) (alone' : Alone t s')
    (h : Compared t s s') (p : SameProgram t s s') (k : SameConstants s s') (n : occ t ts ≡ occ t us)
    (z : (run ts s).state.table.users.flag ≡ 0) (z' : (run us s').state.table.users.flag ≡ 0) where
  pub isolation : Compared t (run ts s).state (run us s').state
  unfolding run
  isolation =
      subst₂ (Compared t) (sym (run_after decide tallied ts s no_tally)) (sym (run_after decide tallied us s' no_tally))
      (isolation_of_set decide (λ u. eqb u t) ts us s s' inv inv' (apart_of_alone t s alone) (apart_of_alone t s' alone')
      (λ u m. subst (λ (x : ℕ). Compared x s s') (sym (eqb-true u t m)) h)
      (λ u m. subst (λ (x : ℕ). SameProgram x s s') (sym (eqb-true u t m)) p) k
      (same_items t ts us n) (down_after ts s z) (down_after us s' z') t (eq-eqb t t refl))

  pub own_isolation : own_counts t (run ts s).notes ≡ own_counts t (run us s').notes
  unfolding run
  own_isolation =
      same_own decide (λ u. eqb u t) ts us s s' inv inv' (apart_of_alone t s alone) (apart_of_alone t s' alone')
      (λ u m. subst (λ (x : ℕ). Compared x s s') (sym (eqb-true u t m)) h)
      (λ u m. subst (λ (x : ℕ). SameProgram x s s') (sym (eqb-true u t m)) p) k
      (same_items t ts us n) (down_after ts s z) (down_after us s' z') t (eq-eqb t t refl) no_tally
