-- A run in numbers: its start, its loop, its end.
use Rattle.std.specs.Prelude.{ℕ, zero, suc, ◌+◌, ◌≤◌, ◌<◌, ◌≡◌, Bool, true, false, cond, ltb, length, set, take, drop, replicate, Some, None}
use Rattle.std.proofs.Math.Path.{refl, ap}
use Rattle.std.proofs.Common.{sym, ap₂, ◌∙◌, subst, add-one, arith, length-set, drop_of_length-le, take_all, take-suc, get_or-set_same, drop-cons, leb-true, ltb-true, ltb-false}
use mathlib.Core.List.{List, [], ◌∷◌, ◌++◌}
use Rattle.std.proofs.Math.ListN.{get_or, get_or-eq_default}
use Rattle.std.proofs.lemmas.List.{get_or-replicate, take-set-le}
use Rattle.window.specs.Limits.{most_registers, most_data}
use Rattle.run_rings.specs.Code.Rings.{ring_count}
use Rattle.run.specs.Schedule.{most_items}
use Rattle.window.specs.declared.Row.{Row}
use Rattle.step.specs.declared.Processes.{Processes}
use Rattle.step.specs.declared.Queue.{Queue}
use Rattle.step.specs.declared.Attempt.{Attempt}
use Rattle.step.specs.declared.Attempt.TheVariants.{Step, Try}
use Rattle.step.specs.declared.Ending.{Ending}
use Rattle.step.specs.declared.Ending.TheVariants.{Executed, Waved, Trapped, Idle}
use Rattle.step.specs.Queues.{pt_count, numbers, live_counts, live_total, places}
use Rattle.step.specs.State.{State, state, find_row, no_queue, queue_in}
use Rattle.step.specs.Act.{table_of}
use Rattle.step.specs.Soundness.{sound}
use Rattle.step.proofs.Laws.Sound.{Sound, sound_parts, found_has_row, has_row_range, tidy_of}
use Rattle.step.proofs.Laws.Motions.{Tidy}
use Rattle.step.proofs.Laws.MemoriesKept.{memory_parts}
use Rattle.window.specs.Sound.{tag_sound, state_sound}
use Rattle.run.specs.declared.Counts.{Counts}
use Rattle.run.specs.Run.{no_counts, plus, summed, Tally, no_tally, run}
use Rattle.run.proofs.Laws.Tallies.{plus_none, plus_grouped}
use Rattle.run.proofs.Laws.Run.{sum, run_counts, run_tries}
use Rattle.run_rings.specs.declared.Tasks.{Tasks}
use Rattle.run_rings.specs.Code.Mask.{free_word}
use Rattle.run_rings.specs.Code.Records.{rows_in}
use Rattle.run_rings.specs.Code.Spans.{Narrow, Tells, Told}
use Rattle.run_rings.specs.Code.Laid.{no_tasks, tasks_laid}
use Rattle.run_rings.specs.Laws.Spans.{told_none}
use Rattle.run_rings.specs.Laws.Laid.{tasks_told}
use Rattle.run_rings.specs.Laws.Rows.{rows_start, narrow_row}
use Rattle.run_next.specs.Code.Next.{place_after}
use Rattle.run_next.specs.Code.Settled.{Lines, queues_of, place_of}
use Rattle.run_next.specs.Code.Numbers.{Cells, state_from, Numbers}
use Rattle.run_next.specs.Code.Stands.{Laid}
use Rattle.run_next.specs.Code.Tally.{tally_cells, own_in, own_from, all_own, tally_in}
use Rattle.run_next.specs.Code.Running.{Running}
use Rattle.run_next.specs.Laws.Tally.{length_from, at_from}
use Rattle.run_next.specs.Laws.Running.{ends}
use Rattle.run_schedule.specs.declared.Carried.{Carried}
use Rattle.run_schedule.specs.Code.Carried.{lines_of, open_state, Opens, Begins, Ends, Small, users_of}

-- ---- the start

module _ (rows : List Row) (users : Processes) (tasks : Tasks) (m : Cells) (r : Carried) (o : Opens rows users tasks m) (b : Begins users tasks r) where
  parts : Sound (open_state rows users m)
  parts = sound_parts (open_state rows users m) o.sound

  tells : (t : ℕ) (x : Row) → find_row t rows ≡ Some x → Tells tasks.kinds tasks.stored tasks.spans t x
  unfolding open_state
  tells t x f = let l = has_row_range 0 t rows parts.rows (found_has_row t rows x f) in o.told.tells t x l.0 (omega (arith, l.1)) f

  rows_same : rows_in r.kinds r.stored rows ≡ rows
  unfolding open_state
  rows_same =
      rows_start r.kinds r.stored 0 rows parts.rows
      (λ t x f.
      let q = tells t x f in
      (ap (λ (l : List ℕ). get_or l t 0) b.kinds ∙ q.kind, ap (λ (l : List ℕ). get_or l t 0) b.stored ∙ q.psw))

  pub state_same : state_from rows (lines_of r) m ≡ open_state rows users m
  unfolding state_from open_state
  state_same = rw (rows_same, b.psws, b.queues, b.flag) refl

  pub numbers_begin : length r.psws ≡ suc pt_count → Numbers rows tasks.spans (lines_of r) m
  numbers_begin wide = record {
    windows = λ t x f. (tells t x f).windows;
    frees = b.free ∙ ap free_word (sym b.queues);
    counted = b.count ∙ o.counted ∙ ap live_total (sym b.queues);
    wide = wide;
    sound = ap sound state_same ∙ o.sound;
  }

  -- as many tags as words
  pub even : (length m.registers.tags ≡ length m.registers.words) × (length m.data_words.tags ≡ length m.data_words.words)
  unfolding open_state
  even = (
    (memory_parts most_registers tag_sound m.registers parts.memories.registers).even,
    (memory_parts most_data state_sound m.data_words parts.memories.data_words).even,
  )

-- ---- the counts

-- no count of a task is above that of all
record Within (c d : Counts) : Type 0 where
  executed : c.executed ≤ d.executed
  waved : c.waved ≤ d.waved
  trapped : c.trapped ≤ d.trapped
  idle : c.idle ≤ d.idle
  tries : c.tries ≤ d.tries

own_within : (l : List Counts) (t : ℕ) → Within (get_or l t no_counts) (summed l)
unfolding summed plus
own_within [] t = record { executed = omega arith; waved = omega arith; trapped = omega arith; idle = omega arith; tries = omega arith }
own_within (c ∷ l) zero = record { executed = omega arith; waved = omega arith; trapped = omega arith; idle = omega arith; tries = omega arith }
own_within (c ∷ l) (suc t) =
    let w = own_within l t in
    record {
      executed = omega (arith, w.executed);
      waved = omega (arith, w.waved);
      trapped = omega (arith, w.trapped);
      idle = omega (arith, w.idle);
      tries = omega (arith, w.tries);
    }

own_at : (l : List ℕ) (t : ℕ) → t < numbers → get_or (all_own l) t no_counts ≡ own_in l t
own_at l t h = at_from l 0 numbers t h ∙ ap (own_in l) (omega arith)

own_in_lem : (l : List ℕ) (t : ℕ) → t < numbers → Within (own_in l t) (tally_in l).counts
unfolding tally_in
own_in_lem l t h = subst (λ (c : Counts). Within c (summed (all_own l))) (own_at l t h) (own_within (all_own l) t)

-- no cell is above the counts of its task together
cell_place : (l : List ℕ) (t : ℕ) (a : Attempt) (had : Bool) (e : Ending) → get_or l (place_of a had e + t) 0 ≤ sum (own_in l t) + (own_in l t).tries
unfolding place_of place_after own_in
cell_place l t Step had Executed = omega arith
cell_place l t Step had Waved = omega arith
cell_place l t Step had (Trapped k p) = omega arith
cell_place l t Try true Executed = omega arith
cell_place l t Try false Executed = omega arith
cell_place l t Try true Waved = omega arith
cell_place l t Try false Waved = omega arith
cell_place l t Try had (Trapped k p) = omega arith
cell_place l t a had Idle = omega arith

pub place_lt : (a : Attempt) (had : Bool) (e : Ending) → place_of a had e ≤ pt_count
unfolding place_of place_after
place_lt Step had Executed = omega arith
place_lt Step had Waved = omega arith
place_lt Step had (Trapped k p) = omega arith
place_lt Try true Executed = omega arith
place_lt Try false Executed = omega arith
place_lt Try true Waved = omega arith
place_lt Try false Waved = omega arith
place_lt Try had (Trapped k p) = omega arith
place_lt a had Idle = omega arith

-- of a whole run each has 32 bits, and each of a task
pub small_counts : (l : List ℕ) (s : State) (n : Tally) → length l ≤ most_items → n ≡ (run l s).notes → Small n.counts
small_counts l s n h e =
    let a : sum n.counts ≡ length l = ap (λ (x : Tally). sum x.counts) e ∙ run_counts l s in
    let b : n.counts.tries ≤ length l = subst (λ (x : Tally). x.counts.tries ≤ length l) (sym e) (run_tries l s) in
    record { executed = omega (arith, a, h); waved = omega (arith, a, h); trapped = omega (arith, a, h); idle = omega (arith, a, h); tries = omega (arith, b, h) }

pub small_own : (l : List ℕ) (t : ℕ) → Small (tally_in l).counts → t < numbers → Small (own_in l t)
small_own l t s h =
    let w = own_in_lem l t h in
    record {
      executed = omega (arith, w.executed, s.executed);
      waved = omega (arith, w.waved, s.waved);
      trapped = omega (arith, w.trapped, s.trapped);
      idle = omega (arith, w.idle, s.idle);
      tries = omega (arith, w.tries, s.tries);
    }

-- a cell of a count has room for one more
pub cell_room : (l : List ℕ) (i : ℕ) (s₀ : State) (rows : List Row) (spans : List ℕ) (x : Lines) (m : Cells) (tally : List ℕ) (t r : ℕ) (a : Attempt) (had : Bool) (e : Ending)
    → r ≡ place_of a had e → length l ≤ most_items → Running l i s₀ rows spans x m (tally_in tally) → t < numbers → get_or tally (r + t) 0 < 4294967295
cell_room l i s₀ rows spans x m tally t p a had e q h g k =
    let r = g.runs in
    let w = own_in_lem tally t k in
    rw q (omega (arith, cell_place tally t a had e, w.executed, w.waved, w.trapped, w.idle, w.tries, r.counts, r.within, h, tries_few g.tried r.tries))
  where
    tries_few : (b : Bool) → (tally_in tally).counts.tries ≤ i + cond b 1 0 → (tally_in tally).counts.tries ≤ i + 1
    tries_few true q = q
    tries_few false q = omega (arith, q)

-- ---- the end

pub run_ends : (l : List ℕ) (i : ℕ) (s s' : State) (rows : List Row) (spans : List ℕ) (r : Carried) (m : Cells) → length l ≤ i → s ≡ s'
    → Running l i s rows spans (lines_of r) m (tally_in r.tally) → Ends rows spans l s' r m
run_ends l i s s' rows spans r m h e g = record {
  ran = ends l i s (state_from rows (lines_of r) m) (tally_in r.tally) g.tried h g.runs ∙ ap (run l) e;
  numbers = g.numbers;
}

-- the processes at the end are those of the state
pub users_end : (rows : List Row) (spans : List ℕ) (r : Carried) (m : Cells) → Numbers rows spans (lines_of r) m
    → record { users = users_of r } ≡ table_of (take pt_count r.psws) (queues_of (lines_of r)) r.flag
unfolding users_of
users_end rows spans r m h =
    ap (λ (n : ℕ). record {
      users = record { psw = take pt_count r.psws; queues = queues_of (lines_of r); flag = r.flag; live = live_counts (queues_of (lines_of r)); count = n };
    }) h.counted

-- no queue is longer than its array
pub lens_end : (rows : List Row) (spans : List ℕ) (r : Carried) (m : Cells) → Numbers rows spans (lines_of r) m → (k : ℕ) → (get_or (queues_of (lines_of r)) k no_queue).len ≤ places
unfolding state_from queue_in
lens_end rows spans r m h k = on (ltb k ring_count) refl (tidy_of _ _ (sound_parts _ h.sound).table)
  where
    on : (b : Bool) → ltb k ring_count ≡ b → Tidy (take pt_count r.psws) (queues_of (lines_of r)) → (get_or (queues_of (lines_of r)) k no_queue).len ≤ places
    on true e tidy = (tidy.shaped k (ltb-true k 16 e)).fits
    on false e tidy = omega (arith, ap (λ (q : Queue). q.len) (get_or-eq_default (queues_of (lines_of r)) no_queue {n = k} (omega (arith, tidy.sixteen, ltb-false k 16 e))))

-- ---- the rows in numbers

module _ (rows : List Row) (users : Processes) (m : Cells) (h : sound (open_state rows users m) ≡ true) where
  sound_open : Sound (state rows (table_of users.psw users.queues users.flag) m.constants m.registers m.program m.data_words)
  unfolding open_state
  sound_open = sound_parts _ h

  -- the numbers of a row fit
  narrow_rows : (t : ℕ) (r : Row) → find_row t rows ≡ Some r → Narrow r
  narrow_rows t r f =
      narrow_row 0 _ _ (length m.data_words.words) t rows r sound_open.rows sound_open.windows
      (leb-true (length m.data_words.words) most_data (memory_parts most_data state_sound m.data_words sound_open.memories.data_words).few) f

  pub opens : (x : Tasks) → x ≡ tasks_laid 7 1 rows no_tasks → users.count ≡ live_total users.queues → Opens rows users x m
  opens x e k = record {
    told =
        subst (λ (y : Tasks). Told rows y.kinds y.stored y.spans 8) (sym e)
        (tasks_told rows narrow_rows 7 1 no_tasks (omega arith) (record { kinds = refl; stored = refl; spans = refl }) (told_none rows _ _ _));
    counted = k;
    sound = h;
  }

-- ---- a list copied one by one

pub copies : {A : Type 0} (z : A) (s d : List A) (k : ℕ) → k < length s → k < length d → take k d ≡ take k s → take (k + 1) (set d k (get_or s k z)) ≡ take (k + 1) s
copies {A} z s d k h l e =
    rw (add-one k)
    (take-suc (set d k (get_or s k z)) k z (omega (arith, l, length-set d k (get_or s k z)))
    ∙ ap₂ {C = List A} (λ a x. a ++ (x ∷ [])) (take-set-le k d k (get_or s k z) (omega arith) ∙ e) (get_or-set_same d k (get_or s k z) z l)
    ∙ sym (take-suc s k z h))

-- ---- the counts of all task numbers, one by one

pub copies_own : (l : List ℕ) (d : List Counts) (t : ℕ) → t < numbers → t < length d → take t d ≡ take t (all_own l) → take (t + 1) (set d t (own_in l t)) ≡ take (t + 1) (all_own l)
copies_own l d t h k e =
    ap (λ (c : Counts). take (t + 1) (set d t c)) (sym (own_at l t h)) ∙ copies no_counts (all_own l) d t (omega (arith, h, length_from l 0 numbers)) k e

pub all_copied : (l : List ℕ) (d : List Counts) (t : ℕ) → t ≡ numbers → length d ≡ numbers → take t d ≡ take t (all_own l) → d ≡ all_own l
all_copied l d t q h e =
    sym (take_all t d (omega (arith, q, h))) ∙ e ∙ take_all t (all_own l) (omega (arith, q, length_from l 0 numbers))

pub sums : (own : List Counts) (t : ℕ) (c : Counts) → t < length own → plus (plus c (get_or own t no_counts)) (summed (drop (t + 1) own)) ≡ plus c (summed (drop t own))
unfolding summed
sums own t c h =
    rw (add-one t) (sym (plus_grouped c (get_or own t no_counts) (summed (drop (suc t) own))) ∙ ap (λ (l : List Counts). plus c (summed l)) (sym (drop-cons own t no_counts h)))

-- nothing is left to be added
pub nothing_last : (own : List Counts) (t : ℕ) (c : Counts) → plus c (summed (drop t own)) ≡ summed own → length own ≤ t → c ≡ summed own
unfolding summed
nothing_last own t c e h =
    sym (plus_none c) ∙ ap (λ (l : List Counts). plus c (summed l)) (sym (drop_of_length-le own h)) ∙ e

-- those of all task numbers, and their sum
pub tallies : (l : List ℕ) (own : List Counts) (c : Counts) → own ≡ all_own l → c ≡ summed own → record { counts = c; own = own } ≡ tally_in l
unfolding tally_in
tallies l own c e f = rw (f, e) refl

-- a part of small counts is small
pub small_part : (c d e : Counts) → plus c d ≡ e → Small e → Small c
unfolding plus
small_part c d e q s = record {
  executed = omega (arith, ap (λ (x : Counts). x.executed) q, s.executed);
  waved = omega (arith, ap (λ (x : Counts). x.waved) q, s.waved);
  trapped = omega (arith, ap (λ (x : Counts). x.trapped) q, s.trapped);
  idle = omega (arith, ap (λ (x : Counts). x.idle) q, s.idle);
  tries = omega (arith, ap (λ (x : Counts). x.tries) q, s.tries);
}

-- ---- no next attempt yet, and nothing counted

pub laid_none : (kinds : List ℕ) (qs : List Queue) → Laid 0 kinds (replicate numbers None) qs
laid_none kinds qs = record { stands = λ t a b. absurd (omega (arith, a)); none = λ t a b. get_or-replicate numbers t None None (omega (arith, b)) }

pub none_counted : tally_in (replicate tally_cells 0) ≡ no_tally
unfolding tally_in own_in own_from summed plus
none_counted = refl

pub place_le : (r : ℕ) (a : Attempt) (had : Bool) (e : Ending) → r ≡ place_of a had e → r ≤ pt_count
place_le r a had e q = omega (arith, q, place_lt a had e)
