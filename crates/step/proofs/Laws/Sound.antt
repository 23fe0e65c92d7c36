-- Soundness of a state: its parts, and the invariant of a run that it gives.
use Rattle.std.specs.Prelude.{ℕ, zero, suc, ◌+◌, ◌*◌, ◌/◌, ◌%◌, ◌≤◌, ◌<◌, ◌≡◌, ◌≢◌, Bool, true, false, ◌||◌, List, [], ◌∷◌, length, get_or, eqb, leb, ltb}
use Rattle.std.proofs.Common.{ap, ◌∙◌, subst, le_of_suc-le-suc, not-suc-le-zero, arith, eqb-true, eq-eqb, leb-true, ltb-true, Some}
use Rattle.std.proofs.lemmas.Bool.{false≢true}
use Rattle.window.specs.Limits.{most_constants, most_registers, most_program, most_data}
use Rattle.window.specs.declared.Row.{Row}
use Rattle.word.proofs.Laws.Bools.{Eq?, same, differ, eq?, and_left, and_right, or_right}
use Rattle.window.specs.Sound.{tag_sound, state_sound, quality_sound}
use Rattle.word.proofs.Laws.Conjunctions.{also, both}
use Rattle.step.specs.declared.Queue.{Queue}
use Rattle.step.specs.declared.Processes.{Processes}
use Rattle.step.specs.Queues.{task_place, own_number, sfu_number, occ, live_pts, live_total}
use Rattle.step.specs.State.{State, find_row, no_queue, queue_in, psws_of}
use Rattle.step.specs.Soundness.{every, distinct, task_sound, row_sound, rows_sound, has_row, queue_shaped, may_hold, queues_sound, pt_sound, total_sound}
use Rattle.step.specs.Soundness.{flag_sound, processes_sound, table_sound, words_sound, memory_sound, memories_sound, windows_sound, live_sound, sound}
use Rattle.word.specs.Fields.{psw_sound}
use Rattle.step.proofs.Laws.Queues.{Shaped}
use Rattle.step.proofs.Laws.Rows.{here, there, found, none_some}
use Rattle.step.proofs.Laws.Counted.{live_counted}
use Rattle.step.proofs.Laws.Motions.{Tidy}
use Rattle.step.proofs.Laws.Act.{Inv}
use Rattle.step.proofs.Laws.Every.{every_at, once_of}

-- ---- the parts

pub record SoundTable (rows : List Row) (t : Processes) : Type 0 where
  pub wide : length t.psw ≡ 64
  pub sixteen : length t.queues ≡ 16
  pub queues : queues_sound rows 0 t.queues ≡ true
  pub once : distinct (live_pts t.queues) ≡ true
  pub small : every pt_sound (live_pts t.queues) ≡ true
  pub psws : every psw_sound (psws_of t.psw (live_pts t.queues)) ≡ true
  pub flag : flag_sound t.flag ≡ true
  pub counted : live_sound t ≡ true
  pub room : total_sound (length (live_pts t.queues)) t.flag ≡ true

pub record SoundMemories (s : State) : Type 0 where
  pub constants : memory_sound most_constants quality_sound s.constants ≡ true
  pub registers : memory_sound most_registers tag_sound s.registers ≡ true
  pub program : words_sound most_program s.program ≡ true
  pub data_words : memory_sound most_data state_sound s.data_words ≡ true

pub record Sound (s : State) : Type 0 where
  pub rows : rows_sound 0 s.rows ≡ true
  pub table : SoundTable s.rows s.table.users
  pub memories : SoundMemories s
  pub windows : windows_sound (length s.registers.words) (length s.program) (length s.data_words.words) s.rows ≡ true

table_parts : (rows : List Row) (t : Processes) → table_sound rows t ≡ true → SoundTable rows t
unfolding table_sound processes_sound live_total
table_parts rows t e =
    let u = both (both (λ x. x) (both (λ x. x) (λ x. x))) (both (both (λ x. x) (both (λ x. x) (λ x. x))) (both (λ x. x) (both (λ x. x) (λ x. x)))) e in
    record {
      wide = eqb-true (length t.psw) 64 u.0.0;
      sixteen = eqb-true (length t.queues) 16 u.0.1.0;
      queues = u.0.1.1;
      once = u.1.0.0;
      small = u.1.0.1.0;
      psws = u.1.0.1.1;
      flag = u.1.1.0;
      counted = u.1.1.1.0;
      room = u.1.1.1.1;
    }

table_whole : (rows : List Row) (t : Processes) → SoundTable rows t → table_sound rows t ≡ true
unfolding table_sound processes_sound live_total
table_whole rows t s =
    also (also (eq-eqb (length t.psw) 64 s.wide) (also (eq-eqb (length t.queues) 16 s.sixteen) s.queues))
    (also (also s.once (also s.small s.psws)) (also s.flag (also s.counted s.room)))

memories_parts : (s : State) → memories_sound s ≡ true → SoundMemories s
unfolding memories_sound
memories_parts s e =
    let u = both (both (λ x. x) (λ x. x)) (both (λ x. x) (λ x. x)) e in
    record { constants = u.0.0; registers = u.0.1; program = u.1.0; data_words = u.1.1 }

memories_whole : (s : State) → SoundMemories s → memories_sound s ≡ true
unfolding memories_sound
memories_whole s m = also (also m.constants m.registers) (also m.program m.data_words)

pub sound_parts : (s : State) → sound s ≡ true → Sound s
unfolding sound
sound_parts s e =
    let u = both (both (λ x. x) (λ x. x)) (both (λ x. x) (λ x. x)) e in
    record { rows = u.0.0; table = table_parts s.rows s.table.users u.0.1; memories = memories_parts s u.1.0; windows = u.1.1 }

pub sound_whole : (s : State) → Sound s → sound s ≡ true
unfolding sound
sound_whole s p = also (also p.rows (table_whole s.rows s.table.users p.table)) (also (memories_whole s p.memories) p.windows)

-- ---- the invariant of a run

-- a task that has a row is listed
pub found_has_row : (t : ℕ) (rs : List Row) (r : Row) → find_row t rs ≡ Some r → has_row t rs ≡ true
unfolding has_row
found_has_row t [] r e = absurd (none_some r (unfold find_row in e))
found_has_row t (y ∷ rs) r e =
    elim (found t r y rs e) [ here q p ↦ rw (eq-eqb y.task t q) | there q k ↦ or_right (eqb y.task t) (has_row t rs) (found_has_row t rs r k) ]

-- a listed task is one of 1 to 7
pub has_row_range : (before t : ℕ) (rows : List Row) → rows_sound before rows ≡ true → has_row t rows ≡ true → (before < t) × (t ≤ 7)
unfolding rows_sound row_sound task_sound has_row
has_row_range before t [] h e = absurd (false≢true e)
has_row_range before t (r ∷ rs) h e =
    let p : task_sound before r.task ≡ true = and_left (task_sound before r.task) _ (and_left (row_sound before r) (rows_sound r.task rs) h) in
    let l : before < r.task = ltb-true before r.task (and_left (ltb before r.task) (leb r.task 7) p) in
    let u : r.task ≤ 7 = leb-true r.task 7 (and_right (ltb before r.task) (leb r.task 7) p) in
    go (eqb r.task t) (eq? r.task t) l u e (has_row_range r.task t rs (and_right (row_sound before r) (rows_sound r.task rs) h))
  where
    go : (b : Bool) → Eq? r.task t b → before < r.task → r.task ≤ 7 → b || has_row t rs ≡ true
        → (has_row t rs ≡ true → (r.task < t) × (t ≤ 7)) → (before < t) × (t ≤ 7)
    go true (same q) l u e ih = (omega arith, omega arith)
    go false (differ q) l u e ih = let k = ih e in (omega arith, k.1)

pub shaped_of : (q : Queue) → queue_shaped q ≡ true → Shaped q
unfolding queue_shaped
shaped_of q e = let u = both (eqb-true (length q.pts) 64) (leb-true q.len 64) e in record { full = u.0; fits = u.1 }

pub queues_parts : (rows : List Row) (k : ℕ) (q : Queue) (qs : List Queue) → queues_sound rows k (q ∷ qs) ≡ true
    → ((queue_shaped q ≡ true) × (eqb q.len 0 || may_hold rows k ≡ true)) × (queues_sound rows (suc k) qs ≡ true)
unfolding queues_sound
queues_parts rows k q qs e = both (both (λ x. x) (λ x. x)) (λ x. x) e

queues_shaped : (rows : List Row) (k : ℕ) (qs : List Queue) → queues_sound rows k qs ≡ true → (i : ℕ) → i < length qs → Shaped (get_or qs i no_queue)
queues_shaped rows k [] e i h = absurd (not-suc-le-zero h)
queues_shaped rows k (q ∷ qs) e zero h = shaped_of q (queues_parts rows k q qs e).0.0
queues_shaped rows k (q ∷ qs) e (suc i) h = queues_shaped rows (suc k) qs (queues_parts rows k q qs e).1 i (le_of_suc-le-suc h)

small_of : (l : List ℕ) → every pt_sound l ≡ true → (p : ℕ) → 64 ≤ p → occ p l ≡ 0
unfolding pt_sound
small_of l e p h = go (eqb (occ p l) 0) (eq? (occ p l) 0)
  where
    go : (b : Bool) → Eq? (occ p l) 0 b → occ p l ≡ 0
    go true (same z) = z
    go false (differ n) = absurd (omega (arith, ltb-true p 64 (every_at pt_sound l e p n)))

pub tidy_of : (rows : List Row) (t : Processes) → SoundTable rows t → Tidy t.psw t.queues
unfolding queue_in
tidy_of rows t s = record {
  wide = s.wide;
  sixteen = s.sixteen;
  shaped = λ i h. queues_shaped rows 0 t.queues s.queues i (omega (arith, s.sixteen));
  once = once_of (live_pts t.queues) s.once;
  small = small_of (live_pts t.queues) s.small;
}

-- a queue with a process may hold it
pub nonempty_holds : (rows : List Row) (k : ℕ) (qs : List Queue) → queues_sound rows k qs ≡ true → (i : ℕ) → i < length qs → (queue_in qs i).len ≢ 0 → may_hold rows (i + k) ≡ true
unfolding queue_in
nonempty_holds rows k [] e i h n = absurd (not-suc-le-zero h)
nonempty_holds rows k (q ∷ qs) e zero h n =
    let m : k ≡ 0 + k = omega arith in
    subst (λ (j : ℕ). may_hold rows j ≡ true) m (go (eqb q.len 0) (eq? q.len 0) (queues_parts rows k q qs e).0.1)
  where
    go : (b : Bool) → Eq? q.len 0 b → b || may_hold rows k ≡ true → may_hold rows k ≡ true
    go true (same z) u = absurd (n z)
    go false (differ z) u = u
nonempty_holds rows k (q ∷ qs) e (suc i) h n =
    let m : i + suc k ≡ suc i + k = omega arith in
    subst (λ (j : ℕ). may_hold rows j ≡ true) m (nonempty_holds rows (suc k) qs (queues_parts rows k q qs e).1 i (le_of_suc-le-suc h) n)

-- the queues of a listed task may hold processes
pub listed_holds : (rows : List Row) (t : ℕ) → t ≤ 7 → has_row t rows ≡ true → (may_hold rows (own_number t) ≡ true) × (may_hold rows (sfu_number t) ≡ true)
unfolding may_hold own_number sfu_number task_place
listed_holds rows t h l =
    let m : t % 8 ≡ t = omega arith in
    let a : 2 * (t % 8) / 2 ≡ t = omega (arith, m) in
    let b : (2 * (t % 8) + 1) / 2 ≡ t = omega (arith, m) in
    (ap (λ (n : ℕ). has_row n rows) a ∙ l, ap (λ (n : ℕ). has_row n rows) b ∙ l)

pub inv_of : (s : State) → sound s ≡ true → Inv s
inv_of s e =
    let p = sound_parts s e in
    record {
      tasks = λ t r f. has_row_range 0 t s.rows p.rows (found_has_row t s.rows r f);
      tidy = tidy_of s.rows s.table.users p.table;
      counted = (live_counted s.table.users p.table.counted).1;
    }
