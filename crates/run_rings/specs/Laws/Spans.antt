-- Windows in numbers by task: the numbers of one task laid, those of the others as they are.
use Rattle.std.specs.Prelude.{◌≡◌, ◌≢◌, Bool, true, false, ℕ, zero, suc, ◌+◌, ◌*◌, ◌≤◌, ◌<◌, eqb, ltb, length, set, None, Some}
use Rattle.std.proofs.Math.Path.{refl, sym, ap}
use Rattle.std.proofs.Common.{◌∙◌, subst, arith, add-zero, length-set, get_or-set_same, get_or-set_other, ltb-true, ltb-false}
use mathlib.Core.List.{List, [], ◌∷◌}
use Rattle.std.proofs.Math.Nat.{mod-eq_of_lt}
use Rattle.std.proofs.Math.ListN.{get_or}
use Rattle.std.proofs.lemmas.List.Edits.{sets, sets-eq}
use Rattle.word.proofs.Laws.Bools.{Eq?, same, differ, eq?}
use Rattle.window.specs.declared.Row.{Row}
use Rattle.window.specs.Windows.{register_window, program_window, data_window}
use Rattle.step.specs.State.{find_row}
use Rattle.step.proofs.Laws.Rows.{some_inj, none_some}
use Rattle.run_rings.specs.Code.Records.{with_record}
use Rattle.run_rings.specs.Code.Spans.{Narrow, Windows, window_numbers, windows_laid, Tells, Told}

-- a trap record is no part of the windows
pub windows_in : (sp : List ℕ) (t : ℕ) (r : Row) (k p : ℕ) → Windows sp t r → Windows sp t (with_record r k p)
unfolding register_window program_window data_window
windows_in sp t r k p w = record {
  registers = record { constants = w.registers.constants; registers = w.registers.registers };
  program = w.program;
  bytes = w.bytes;
}

-- ---- a copy into a list, place by place

sets_before : (l : List ℕ) (m i : ℕ) (vs : List ℕ) → i < m → get_or (sets l m vs) i 0 ≡ get_or l i 0
sets_before l m i [] h = refl
sets_before l m i (v ∷ vs) h = sets_before (set l m v) (suc m) i vs (omega arith) ∙ get_or-set_other l m i v 0 (λ e. omega (arith, e, h))

sets_behind : (l : List ℕ) (m i : ℕ) (vs : List ℕ) → m + length vs ≤ i → get_or (sets l m vs) i 0 ≡ get_or l i 0
sets_behind l m i [] h = refl
sets_behind l m i (v ∷ vs) h = sets_behind (set l m v) (suc m) i vs (omega arith) ∙ get_or-set_other l m i v 0 (λ e. omega (arith, e, h))

sets_in : (l : List ℕ) (m : ℕ) (vs : List ℕ) (j : ℕ) → m + length vs ≤ length l → j < length vs → get_or (sets l m vs) (m + j) 0 ≡ get_or vs j 0
sets_in l m [] j h k = absurd (omega arith)
sets_in l m (v ∷ vs) zero h k =
    rw (add-zero m) (sets_before (set l m v) (suc m) m vs (omega arith) ∙ get_or-set_same l m v 0 (omega arith))
sets_in l m (v ∷ vs) (suc j) h k =
    let e : suc m + j ≡ m + suc j = omega arith in
    subst (λ (i : ℕ). get_or (sets (set l m v) (suc m) vs) i 0 ≡ get_or vs j 0) e (sets_in (set l m v) (suc m) vs j (rw (length-set l m v) (omega arith)) (omega arith))

-- the numbers of another task, and those of this one
module _ (l : List ℕ) (t : ℕ) (r : Row) (h : 8 * t + 8 ≤ length l) where
  laid_sets : windows_laid l t r ≡ sets l (8 * t) (window_numbers r)
  unfolding window_numbers
  laid_sets = sym (sets-eq (window_numbers r) l (8 * t) (omega (arith, h)))

  eight : length (window_numbers r) ≡ 8
  unfolding window_numbers
  eight = refl

  laid_other : (j w : ℕ) → j ≢ t → w < 8 → get_or (windows_laid l t r) (8 * j + w) 0 ≡ get_or l (8 * j + w) 0
  laid_other j w n k = ap (λ (x : List ℕ). get_or x (8 * j + w) 0) laid_sets ∙ go (ltb j t) refl
    where
      go : (b : Bool) → ltb j t ≡ b → get_or (sets l (8 * t) (window_numbers r)) (8 * j + w) 0 ≡ get_or l (8 * j + w) 0
      go true e = sets_before l (8 * t) (8 * j + w) (window_numbers r) (omega (arith, ltb-true j t e, k))
      go false e = sets_behind l (8 * t) (8 * j + w) (window_numbers r) (omega (arith, ltb-false j t e, n, eight))

  at : (w : ℕ) → w < 8 → get_or (windows_laid l t r) (8 * t + w) 0 ≡ get_or (window_numbers r) w 0
  unfolding window_numbers
  at w k = ap (λ (x : List ℕ). get_or x (8 * t + w) 0) laid_sets ∙ sets_in l (8 * t) (window_numbers r) w (omega (arith, h)) (omega (arith, k))

  laid_mine : Narrow r → Windows (windows_laid l t r) t r
  unfolding window_numbers
  laid_mine n = record {
    registers = record {
      constants = ap (λ (i : ℕ). get_or (windows_laid l t r) i 0) (sym (add-zero (8 * t))) ∙ at 0 (omega arith);
      registers = record { first = at 1 (omega arith) ∙ mod-eq_of_lt n.registers.first; past = at 2 (omega arith) ∙ mod-eq_of_lt n.registers.past };
    };
    program = record { first = at 3 (omega arith) ∙ mod-eq_of_lt n.program.first; past = at 4 (omega arith) ∙ mod-eq_of_lt n.program.past };
    bytes = record { first = at 5 (omega arith) ∙ mod-eq_of_lt n.bytes.first; past = at 6 (omega arith) ∙ mod-eq_of_lt n.bytes.past };
  }

-- numbers that are the same say the same
windows_same : (sp sp' : List ℕ) (t : ℕ) (r : Row) → ((w : ℕ) → w < 8 → get_or sp' (8 * t + w) 0 ≡ get_or sp (8 * t + w) 0) → Windows sp t r → Windows sp' t r
windows_same sp sp' t r h w =
    let z : 8 * t + 0 ≡ 8 * t = omega arith in
    let e : get_or sp' (8 * t) 0 ≡ get_or sp (8 * t) 0 = ap (λ (x : ℕ). get_or sp' x 0) (sym z) ∙ h 0 (omega arith) ∙ ap (λ (x : ℕ). get_or sp x 0) z in
    record {
      registers = record {
        constants = e ∙ w.registers.constants;
        registers = record { first = h 1 (omega arith) ∙ w.registers.registers.first; past = h 2 (omega arith) ∙ w.registers.registers.past };
      };
      program = record { first = h 3 (omega arith) ∙ w.program.first; past = h 4 (omega arith) ∙ w.program.past };
      bytes = record { first = h 5 (omega arith) ∙ w.bytes.first; past = h 6 (omega arith) ∙ w.bytes.past };
    }

-- ---- task by task

module _ (rs : List Row) (ks ss sp : List ℕ) where
  pub told_none : Told rs ks ss sp 1
  told_none = record { tells = λ t r l u f. absurd (omega (arith, l, u)) }

  -- the next task is unlisted
  pub told_past : (m : ℕ) → find_row m rs ≡ None → Told rs ks ss sp m → Told rs ks ss sp (m + 1)
  told_past m e h = record { tells = λ t r l u f. go t r l u f (eqb t m) (eq? t m) }
    where
      go : (t : ℕ) (r : Row) → 1 ≤ t → t < m + 1 → find_row t rs ≡ Some r → (b : Bool) → Eq? t m b → Tells ks ss sp t r
      go t r l u f true (same q) = absurd (none_some r (sym e ∙ ap (λ (x : ℕ). find_row x rs) (sym q) ∙ f))
      go t r l u f false (differ q) = h.tells t r l (omega (arith, u, q)) f

  -- its row is carried over
  pub told_next : (m : ℕ) (x : Row) → m < length ks → m < length ss → 8 * m + 8 ≤ length sp → Narrow x → find_row m rs ≡ Some x → Told rs ks ss sp m
      → Told rs (set ks m x.kind) (set ss m x.psw) (windows_laid sp m x) (m + 1)
  told_next m x i j k n e h = record { tells = λ t r l u f. go t r l u f (eqb t m) (eq? t m) }
    where
      mine : (r : Row) → x ≡ r → Tells (set ks m x.kind) (set ss m x.psw) (windows_laid sp m x) m r
      mine r q = rw (← q) (record { kind = get_or-set_same ks m x.kind 0 i; psw = get_or-set_same ss m x.psw 0 j; windows = laid_mine sp m x k n })

      go : (t : ℕ) (r : Row) → 1 ≤ t → t < m + 1 → find_row t rs ≡ Some r → (b : Bool) → Eq? t m b
          → Tells (set ks m x.kind) (set ss m x.psw) (windows_laid sp m x) t r
      go t r l u f true (same q) = rw q (mine r (some_inj x r (sym e ∙ ap (λ (x : ℕ). find_row x rs) (sym q) ∙ f)))
      go t r l u f false (differ q) =
          let y : Tells ks ss sp t r = h.tells t r l (omega (arith, u, q)) f in
          record {
            kind = get_or-set_other ks m t x.kind 0 q ∙ y.kind;
            psw = get_or-set_other ss m t x.psw 0 q ∙ y.psw;
            windows = windows_same sp (windows_laid sp m x) t r (λ w v. laid_other sp m x k t w q v) y.windows;
          }
