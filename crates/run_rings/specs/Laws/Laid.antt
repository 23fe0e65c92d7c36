-- Queues and rows into numbers one by one, and what the numbers then say.
use Rattle.std.specs.Prelude.{◌≡◌, refl, length, get_or, drop, Option, None, Some}
use Rattle.std.proofs.Math.Path.{sym, subst}
use Rattle.std.proofs.Common.{ap, ◌∙◌, add-zero, length-set, drop_of_length-le, drop-cons}
use mathlib.Core.List.{List, [], ◌∷◌}
use Prim.Native.Nat.{ℕ, zero, suc, ◌+◌, ◌-◌, ◌*◌, ◌≤◌, ◌<◌}
use native.Mathlib.Omega.{arith}
use Rattle.std.proofs.Math.Numerals.{add-one}
use Rattle.std.proofs.lemmas.List.Edits.{length-paste}
use Rattle.window.specs.declared.Row.{Row}
use Rattle.step.specs.declared.Queue.{Queue}
use Rattle.step.specs.State.{find_row, no_queue}
use Rattle.run_rings.specs.Code.Spans.{Narrow, window_numbers, Told}
use Rattle.run_rings.specs.declared.Rings.{Rings}
use Rattle.run_rings.specs.declared.Tasks.{Tasks}
use Rattle.run_rings.specs.Code.Laid.{queue_laid, queues_laid, row_laid, tasks_laid}
use Rattle.run_rings.specs.Laws.Spans.{told_past, told_next}

-- the queues from the ith on are left
module _ (qs : List Queue) (i : ℕ) (x : Rings) where
  pub queue_goes : (y : Rings) {z : Rings} → i < length qs → y ≡ queue_laid i (get_or qs i no_queue) x → queues_laid i (drop i qs) x ≡ z
      → queues_laid (i + 1) (drop (i + 1) qs) y ≡ z
  unfolding queues_laid
  queue_goes y h e p =
      rw (add-one i, e) (sym (ap (λ (l : List Queue). queues_laid i l x) (drop-cons qs i no_queue h)) ∙ p)

  pub queues_done : {z : Rings} → length qs ≤ i → queues_laid i (drop i qs) x ≡ z → x ≡ z
  unfolding queues_laid
  queues_done h p = sym (ap (λ (l : List Queue). queues_laid i l x) (drop_of_length-le qs h)) ∙ p

pub lens_laid : (k : ℕ) (qs : List Queue) (x : Rings) → length (queues_laid k qs x).lens ≡ length x.lens
unfolding queues_laid queue_laid
lens_laid k [] x = refl
lens_laid k (q ∷ qs) x = lens_laid (suc k) qs (queue_laid k q x) ∙ length-set x.lens k q.len

-- the tasks from t on are left
module _ (rs : List Row) (t : ℕ) (x : Tasks) where
  pub task_goes : (y : Tasks) {z : Tasks} → t < 8 → y ≡ row_laid t (find_row t rs) x → tasks_laid (8 - t) t rs x ≡ z → tasks_laid (8 - (t + 1)) (t + 1) rs y ≡ z
  unfolding tasks_laid
  task_goes y h e p =
      let s : 8 - t ≡ suc (8 - (t + 1)) = omega (arith, h) in
      rw e
      (ap (λ (u : ℕ). tasks_laid (8 - (t + 1)) u rs (row_laid t (find_row t rs) x)) (add-one t) ∙ sym (ap (λ (m : ℕ). tasks_laid m t rs x) s) ∙ p)

  pub tasks_done : {z : Tasks} → 8 ≤ t → tasks_laid (8 - t) t rs x ≡ z → x ≡ z
  unfolding tasks_laid
  tasks_done h p = let s : 8 - t ≡ 0 = omega (arith, h) in sym (ap (λ (m : ℕ). tasks_laid m t rs x) s) ∙ p

-- numbers of eight tasks
pub record Eight (x : Tasks) : Type 0 where
  pub kinds : length x.kinds ≡ 8
  pub stored : length x.stored ≡ 8
  pub spans : length x.spans ≡ 64

row_eight : (t : ℕ) (o : Option Row) (x : Tasks) → t < 8 → Eight x → Eight (row_laid t o x)
unfolding row_laid window_numbers
row_eight t None x h e = e
row_eight t (Some r) x h e = record {
  kinds = length-set x.kinds t r.kind ∙ e.kinds;
  stored = length-set x.stored t r.psw ∙ e.stored;
  spans = length-paste x.spans (8 * t) (window_numbers r) 8 (omega (arith, h, e.spans)) (omega arith) ∙ e.spans;
}

pub tasks_eight : (rs : List Row) (n t : ℕ) (x : Tasks) → t + n ≤ 8 → Eight x → Eight (tasks_laid n t rs x)
unfolding tasks_laid
tasks_eight rs zero t x h e = e
tasks_eight rs (suc n) t x h e = tasks_eight rs n (suc t) (row_laid t (find_row t rs) x) (omega arith) (row_eight t (find_row t rs) x (omega arith) e)

-- rows whose numbers fit
module _ (rs : List Row) (narrow : (t : ℕ) (r : Row) → find_row t rs ≡ Some r → Narrow r) where
  row_told : (t : ℕ) (x : Tasks) → t < 8 → Eight x → Told rs x.kinds x.stored x.spans t → (o : Option Row) → find_row t rs ≡ o
      → Told rs (row_laid t o x).kinds (row_laid t o x).stored (row_laid t o x).spans (suc t)
  unfolding row_laid
  row_told t x h e p None f = rw (← add-one t) (told_past rs x.kinds x.stored x.spans t f p)
  row_told t x h e p (Some r) f =
      rw (← add-one t)
      (told_next rs x.kinds x.stored x.spans t r (omega (arith, e.kinds)) (omega (arith, e.stored)) (omega (arith, e.spans)) (narrow t r f) f p)

  pub tasks_told : (n t : ℕ) (x : Tasks) → t + n ≤ 8 → Eight x → Told rs x.kinds x.stored x.spans t
      → Told rs (tasks_laid n t rs x).kinds (tasks_laid n t rs x).stored (tasks_laid n t rs x).spans (t + n)
  unfolding tasks_laid
  tasks_told zero t x h e p = rw (add-zero t) p
  tasks_told (suc n) t x h e p =
      let s : suc t + n ≡ t + suc n = omega arith in
      let y = row_laid t (find_row t rs) x in
      subst (λ (u : ℕ). Told rs (tasks_laid n (suc t) rs y).kinds (tasks_laid n (suc t) rs y).stored (tasks_laid n (suc t) rs y).spans u) s
      (tasks_told n (suc t) y (omega arith) (row_eight t (find_row t rs) x (omega arith) e) (row_told t x (omega arith) e p (find_row t rs) refl))
