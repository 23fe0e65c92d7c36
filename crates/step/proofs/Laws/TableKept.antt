-- What a decision of a task with a process does to a sound process table and to the task's row.
use Prim.Native.Nat.{ℕ, zero, suc, ◌+◌, ◌/◌, ◌≤◌, ◌<◌}
use Rattle.std.specs.Prelude.{◌≡◌, refl, ◌≢◌, Bool, cond, not, ◌&&◌, List, [], ◌∷◌, length, get_or, set, eqb, leb}
use Rattle.std.proofs.Common.{sym, ◌∙◌, arith, get_or-set_same}
use Rattle.std.proofs.Math.Path.{subst}
use Rattle.std.proofs.Math.Bool.{true, false}
use borrow.Author.Tests.{eq-eqb, le-leb, leb-true, lt-ltb, ltb-true, not-true}
use Rattle.word.specs.Fields.{psw_sound}
use Rattle.window.specs.declared.Row.{Row}
use Rattle.word.proofs.Laws.Bools.{Eq?, same, differ, eq?, Le?, below, above, le?, or_right, clash}
use Rattle.word.proofs.Laws.Conjunctions.{also}
use Rattle.operation.specs.declared.Trap.TheVariants.{CreateFault}
use Rattle.operation.specs.declared.Fate.{Fate}
use Rattle.operation.specs.declared.Fate.TheVariants.{Continues, Quits, Creates}
use Rattle.operation.specs.declared.Decision.{Decision}
use Rattle.operation.specs.declared.Decision.TheVariants.{Waits, Traps, Executes}
use Rattle.operation.proofs.Laws.SoundDecisions.{SoundFate, SoundDecision}
use Rattle.operation.specs.declared.Wait.{Wait}
use Rattle.operation.specs.declared.Wait.TheVariants.{Access, Data, Create}
use Rattle.step.specs.declared.Attempt.{Attempt}
use Rattle.step.specs.declared.Attempt.TheVariants.{Step, Try}
use Rattle.step.specs.declared.Queue.{Queue}
use Rattle.step.specs.declared.Processes.{Processes}
use Rattle.step.specs.Queues.{own_number, sfu_number, acting_number, total, below_total, live_total, occ, list_of, head_of, turned, shifted, joined, live_pts, lowest_free}
use Rattle.step.specs.State.{queue_in, with_queue, acting_queue, psws_of, processes_at, processes_acting}
use Rattle.step.specs.Act.{with_counts, turned_at, left_at, joined_at, passed_to, executed_queues, waved_queues, actor_psws, created_psws, Change, change_of, fate_in, created_in, fault_in}
use Rattle.step.specs.Soundness.{every, has_row, queue_shaped, may_hold, queues_sound, pt_sound, flag_sound, total_sound, live_sound}
use Rattle.step.proofs.Laws.Occurrences.{Free, free_spec, hit_same, hit_differ}
use Rattle.step.proofs.Laws.Queues.{Shaped, turned_shaped, shifted_shaped, joined_shaped}
use Rattle.step.proofs.Laws.Motions.{Tidy, le, turn_occ, turn_length, turn_tidy, join_occ, join_length, join_tidy, leave_occ, leave_length, leave_tidy, leave_free, store_tidy, pass_length}
use Rattle.step.proofs.Laws.Act.{own_inside, sfu_inside, acting_inside, own_sfu, executed_occ}
use Rattle.step.proofs.Laws.Sound.{SoundTable, queues_parts, nonempty_holds, tidy_of}
use Rattle.step.proofs.Laws.Counted.{live_counted, made_live}
use Rattle.step.proofs.Laws.RowsKept.{Replaces, replaces_self, replaces_trapped}
use Rattle.step.proofs.Laws.Every.{every_at, every_of, every_map, distinct_of}

-- ---- the tests of a table by what they mean

of_room : (live flag : ℕ) → (flag ≡ 0 → live < 64) → total_sound live flag ≡ true
unfolding total_sound
of_room live flag h = go (leb 64 live) (eqb flag 0) (le? 64 live) (eq? flag 0)
  where
    go : (b c : Bool) → Le? 64 live b → Eq? flag 0 c → not (b && c) ≡ true
    go true true (below k) (same z) = absurd (omega (arith, h z))
    go true false (below k) (differ n) = refl
    go false c (above k) q = refl

room_of_lem : (live flag : ℕ) → total_sound live flag ≡ true → flag ≡ 0 → live < 64
unfolding total_sound
room_of_lem live flag e z = go (leb 64 live) (le? 64 live) e
  where
    go : (b : Bool) → Le? 64 live b → not (b && eqb flag 0) ≡ true → live < 64
    go true (below k) e = clash (eqb flag 0) (eq-eqb flag 0 z) (not-true (eqb flag 0) e)
    go false (above k) e = k

-- every PT of a list has a sound PSW
abbrev SoundPsws : (psw pts : List ℕ) → Type 0
SoundPsws psw pts = (p : ℕ) → occ p pts ≢ 0 → psw_sound (get_or psw p 0) ≡ true

psws_at : (psw pts : List ℕ) → every psw_sound (psws_of psw pts) ≡ true → SoundPsws psw pts
unfolding psws_of
psws_at psw pts e = every_at (λ p. psw_sound (get_or psw p 0)) pts (sym (every_map psw_sound (λ p. get_or psw p 0) pts) ∙ e)

psws_of_lem : (psw pts : List ℕ) → SoundPsws psw pts → every psw_sound (psws_of psw pts) ≡ true
unfolding psws_of
psws_of_lem psw pts h = every_map psw_sound (λ p. get_or psw p 0) pts ∙ every_of (λ p. psw_sound (get_or psw p 0)) pts h

-- a table is sound
table_of_lem : (rows : List Row) (t : Processes) → Tidy t.psw t.queues → queues_sound rows 0 t.queues ≡ true → SoundPsws t.psw (live_pts t.queues)
    → t.flag ≤ 1 → (t.flag ≡ 0 → length (live_pts t.queues) < 64) → live_sound t ≡ true → SoundTable rows t
unfolding pt_sound flag_sound
table_of_lem rows t tidy queues psws flag room counted = record {
  wide = tidy.wide;
  sixteen = tidy.sixteen;
  queues = queues;
  once = distinct_of (live_pts t.queues) tidy.once;
  small = every_of pt_sound (live_pts t.queues) (λ p n. lt-ltb p 64 (go p n (leb 64 p) (le? 64 p)));
  psws = psws_of_lem t.psw (live_pts t.queues) psws;
  flag = le-leb t.flag 1 flag;
  room = of_room (length (live_pts t.queues)) t.flag room;
  counted = counted;
}
  where
    go : (p : ℕ) → occ p (live_pts t.queues) ≢ 0 → (b : Bool) → Le? 64 p b → p < 64
    go p n true (below k) = absurd (n (tidy.small p k))
    go p n false (above k) = k

-- ---- queues

shaped_test : (q : Queue) → Shaped q → queue_shaped q ≡ true
unfolding queue_shaped
shaped_test q s = also (eq-eqb (length q.pts) 64 s.full) (le-leb q.len 64 s.fits)

-- another queue for one that may hold processes
queues_set : (rows : List Row) (k : ℕ) (qs : List Queue) (i : ℕ) (q : Queue) → Shaped q → may_hold rows (i + k) ≡ true
    → queues_sound rows k qs ≡ true → queues_sound rows k (set qs i q) ≡ true
unfolding queues_sound
queues_set rows k [] i q s l e = e
queues_set rows k (x ∷ qs) zero q s l e =
    let h : may_hold rows k ≡ true = subst (λ (n : ℕ). may_hold rows n ≡ true) (omega arith) l in
    also (also (shaped_test q s) (or_right (eqb q.len 0) (may_hold rows k) h)) (queues_parts rows k x qs e).1
queues_set rows k (x ∷ qs) (suc i) q s l e =
    let u = queues_parts rows k x qs e in
    also (also u.0.0 u.0.1) (queues_set rows (suc k) qs i q s (subst (λ (n : ℕ). may_hold rows n ≡ true) (omega arith) l) u.1)

-- only which tasks the rows list is asked
queues_rows : (rows others : List Row) → ((t : ℕ) → has_row t others ≡ has_row t rows) → (k : ℕ) (qs : List Queue)
    → queues_sound others k qs ≡ queues_sound rows k qs
unfolding queues_sound may_hold
queues_rows rows others h k [] = refl
queues_rows rows others h k (q ∷ qs) = rw (h (k / 2), queues_rows rows others h (suc k) qs)

pub table_rows : (rows others : List Row) (t : Processes) → ((u : ℕ) → has_row u others ≡ has_row u rows) → SoundTable rows t → SoundTable others t
table_rows rows others t h s = record {
  wide = s.wide;
  sixteen = s.sixteen;
  queues = queues_rows rows others h 0 t.queues ∙ s.queues;
  once = s.once;
  small = s.small;
  psws = s.psws;
  flag = s.flag;
  room = s.room;
  counted = s.counted;
}

-- ---- PSWs

-- a sound PSW stored at any place
psw_set : (psw : List ℕ) (i v p : ℕ) → psw_sound v ≡ true → psw_sound (get_or psw p 0) ≡ true → psw_sound (get_or (set psw i v) p 0) ≡ true
psw_set [] i v p h e = e
psw_set (x ∷ psw) zero v zero h e = h
psw_set (x ∷ psw) zero v (suc p) h e = e
psw_set (x ∷ psw) (suc i) v zero h e = e
psw_set (x ∷ psw) (suc i) v (suc p) h e = psw_set psw i v p h e

psws_within : (psw l m : List ℕ) → SoundPsws psw l → ((p : ℕ) → occ p m ≤ occ p l) → SoundPsws psw m
psws_within psw l m h o p n = h p (λ z. n (omega (arith, o p)))

-- ---- queues with sound PSWs, and their motions

record SoundQueues (rows : List Row) (psw : List ℕ) (qs : List Queue) : Type 0 where
  tidy : Tidy psw qs
  queues : queues_sound rows 0 qs ≡ true
  psws : SoundPsws psw (live_pts qs)

-- a sound PSW stored at any PT
sound_store : {rows : List Row} {psw : List ℕ} {qs : List Queue} → SoundQueues rows psw qs → (p v : ℕ) → psw_sound v ≡ true → SoundQueues rows (set psw p v) qs
sound_store {psw = psw} {qs} s p v h = record { tidy = store_tidy psw qs p v s.tidy; queues = s.queues; psws = λ i n. psw_set psw p v i h (s.psws i n) }

module _ {rows : List Row} {psw : List ℕ} {qs : List Queue} (s : SoundQueues rows psw qs) (k : ℕ) (high : k < 16) (holds : may_hold rows k ≡ true) where
  queues_with : (x : Queue) → Shaped x → queues_sound rows 0 (with_queue qs k x) ≡ true
  unfolding with_queue
  queues_with x h = queues_set rows 0 qs k x h (subst (λ (n : ℕ). may_hold rows n ≡ true) (omega arith) holds) s.queues

  sound_turn : SoundQueues rows psw (turned_at qs k)
  unfolding turned_at
  sound_turn = record {
    tidy = turn_tidy s.tidy k high;
    queues = queues_with (turned (queue_in qs k)) (turned_shaped (queue_in qs k) (s.tidy.shaped k high));
    psws = λ p n. s.psws p (λ z. n (turn_occ s.tidy k high p ∙ z));
  }

  sound_leave : (queue_in qs k).len ≢ 0 → SoundQueues rows psw (left_at qs k)
  unfolding left_at
  sound_leave n = record {
    tidy = leave_tidy s.tidy k high n;
    queues = queues_with (shifted (queue_in qs k)) (shifted_shaped (queue_in qs k) (s.tidy.shaped k high));
    psws = λ p m. s.psws p (λ z. m (omega (arith, leave_occ s.tidy k high n p, z)));
  }

  sound_join : (p : ℕ) → Free p 64 (live_pts qs) → psw_sound (get_or psw p 0) ≡ true → SoundQueues rows psw (joined_at qs k p)
  unfolding joined_at
  sound_join p f h = record {
    tidy = join_tidy s.tidy k high p f;
    queues = queues_with (joined (queue_in qs k) p) (joined_shaped (queue_in qs k) p (s.tidy.shaped k high));
    psws = λ x n. go x n (eqb x p) (eq? x p);
  }
    where
      go : (x : ℕ) → occ x (live_pts (with_queue qs k (joined (queue_in qs k) p))) ≢ 0 → (b : Bool) → Eq? x p b → psw_sound (get_or psw x 0) ≡ true
      go x n true (same e) = rw e h
      go x n false (differ m) = s.psws x (λ z. n (join_occ s.tidy k high p f x ∙ omega (arith, z, hit_differ x p m)))

-- the head of one queue passes to another
sound_pass : {rows : List Row} {psw : List ℕ} {qs : List Queue} (s : SoundQueues rows psw qs) (j k : ℕ) → j < 16 → k < 16 → (queue_in qs j).len ≢ 0
    → may_hold rows j ≡ true → may_hold rows k ≡ true → SoundQueues rows psw (passed_to qs j k)
unfolding passed_to
sound_pass {psw = psw} {qs} s j k from to n hj hk =
    sound_join (sound_leave s j from hj n) k to hk (head_of (queue_in qs j)) (leave_free s.tidy j from n)
    (s.psws (head_of (queue_in qs j)) (λ z. omega (arith, z, leave_occ s.tidy j from n (head_of (queue_in qs j)), hit_same (head_of (queue_in qs j)))))

-- ---- a task whose process acts

pub record Ready (rows : List Row) (table : Processes) (a : Attempt) (t : ℕ) : Type 0 where
  pub sound : SoundTable rows table
  pub listed : may_hold rows (own_number t) ≡ true
  pub waits : may_hold rows (sfu_number t) ≡ true
  pub nonempty : (acting_queue table a t).len ≢ 0

module _ {rows : List Row} {table : Processes} {a : Attempt} {t : ℕ} (ready : Ready rows table a t) where
  tidy : Tidy table.psw table.queues
  tidy = tidy_of rows table ready.sound

  -- the queue whose head acts may hold it
  holds : may_hold rows (acting_number a t) ≡ true
  holds =
      let m : acting_number a t + 0 ≡ acting_number a t = omega arith in
      subst (λ (n : ℕ). may_hold rows n ≡ true) m
      (nonempty_holds rows 0 table.queues ready.sound.queues (acting_number a t) (omega (arith, acting_inside a t, tidy.sixteen)) ready.nonempty)

  before : SoundQueues rows table.psw table.queues
  before = record { tidy = tidy; queues = ready.sound.queues; psws = psws_at table.psw (live_pts table.queues) ready.sound.psws }

  flag_le : table.flag ≤ 1
  unfolding flag_sound
  flag_le = leb-true table.flag 1 ready.sound.flag

  room : table.flag ≡ 0 → length (live_pts table.queues) < 64
  room = room_of_lem (length (live_pts table.queues)) table.flag ready.sound.room

  pub own_sound : every psw_sound (processes_acting table a t) ≡ true
  unfolding processes_at
  own_sound =
      psws_of_lem table.psw (list_of (acting_queue table a t))
      (psws_within table.psw (live_pts table.queues) (list_of (acting_queue table a t)) before.psws (le tidy (acting_number a t) (acting_inside a t)))

  -- what it leaves, with as many processes
  after : {psw : List ℕ} {qs : List Queue} {flag : ℕ} → SoundQueues rows psw qs → flag ≤ 1 → (flag ≡ 0 → length (live_pts qs) < 64) → SoundTable rows (with_counts psw qs flag)
  after {psw} {qs} {flag} s small spare = table_of_lem rows (with_counts psw qs flag) s.tidy s.queues s.psws small spare (made_live _ _ _)

  actor : (v : ℕ) → psw_sound v ≡ true → SoundQueues rows (actor_psws table a t v) table.queues
  unfolding actor_psws
  actor v h = sound_store before (head_of (acting_queue table a t)) v h

-- the queues of a process that has executed, and of one that waits
module _ {rows : List Row} {psw : List ℕ} {qs : List Queue} (s : SoundQueues rows psw qs) (t : ℕ) (own : may_hold rows (own_number t) ≡ true) (sfu : may_hold rows (sfu_number t) ≡ true) where
  sound_executed : (a : Attempt) → (queue_in qs (acting_number a t)).len ≢ 0 → may_hold rows (acting_number a t) ≡ true → SoundQueues rows psw (executed_queues a qs t)
  unfolding executed_queues acting_number
  sound_executed Step n h = sound_turn s (own_number t) (own_inside t) own
  sound_executed Try n h = sound_pass s (sfu_number t) (own_number t) (sfu_inside t) (own_inside t) n h own

  length_executed : (a : Attempt) → (queue_in qs (acting_number a t)).len ≢ 0 → length (live_pts (executed_queues a qs t)) ≡ length (live_pts qs)
  unfolding executed_queues acting_number
  length_executed Step n = turn_length s.tidy (own_number t) (own_inside t)
  length_executed Try n = pass_length s.tidy (sfu_number t) (own_number t) (sfu_inside t) (own_inside t) (λ e. own_sfu t t (sym e)) n

  sound_waved : (a : Attempt) (w : Wait) → (queue_in qs (acting_number a t)).len ≢ 0 → may_hold rows (acting_number a t) ≡ true → SoundQueues rows psw (waved_queues a w qs t)
  unfolding waved_queues acting_number
  sound_waved Step Access n h = sound_turn s (own_number t) (own_inside t) own
  sound_waved Step Data n h = sound_pass s (own_number t) (sfu_number t) (own_inside t) (sfu_inside t) n own sfu
  sound_waved Step Create n h = sound_turn s (own_number t) (own_inside t) own
  sound_waved Try w n h = sound_turn s (sfu_number t) (sfu_inside t) sfu

  length_waved : (a : Attempt) (w : Wait) → (queue_in qs (acting_number a t)).len ≢ 0 → length (live_pts (waved_queues a w qs t)) ≡ length (live_pts qs)
  unfolding waved_queues acting_number
  length_waved Step Access n = turn_length s.tidy (own_number t) (own_inside t)
  length_waved Step Data n = pass_length s.tidy (own_number t) (sfu_number t) (own_inside t) (sfu_inside t) (own_sfu t t) n
  length_waved Step Create n = turn_length s.tidy (own_number t) (own_inside t)
  length_waved Try w n = turn_length s.tidy (sfu_number t) (sfu_inside t)

-- a created process joins queues that have the PTs of the table
module _ {rows : List Row} {table : Processes} {a : Attempt} {t : ℕ} (ready : Ready rows table a t) (v new : ℕ) (head : psw_sound v ≡ true) (created : psw_sound new ≡ true)
    (few : length (live_pts table.queues) < 64) where
  lowest : Free (lowest_free table.queues) 64 (live_pts table.queues)
  unfolding lowest_free
  lowest = free_spec 64 (live_pts table.queues) few

  sound_created : {qs : List Queue} → SoundQueues rows (actor_psws table a t v) qs → ((p : ℕ) → occ p (live_pts qs) ≡ occ p (live_pts table.queues))
      → SoundQueues rows (created_psws table a t v new) (joined_at qs (own_number t) (lowest_free table.queues))
  unfolding created_psws
  sound_created {qs} s o =
      let f : Free (lowest_free table.queues) 64 (live_pts qs) = record { none_such = o (lowest_free table.queues) ∙ lowest.none_such; small = lowest.small } in
      sound_join (sound_store s (lowest_free table.queues) new created) (own_number t) (own_inside t) ready.listed (lowest_free table.queues) f
      (rw (get_or-set_same (actor_psws table a t v) (lowest_free table.queues) new 0 (omega (arith, s.tidy.wide, lowest.small))) created)

  length_created : {qs : List Queue} → SoundQueues rows (actor_psws table a t v) qs → ((p : ℕ) → occ p (live_pts qs) ≡ occ p (live_pts table.queues))
      → length (live_pts (joined_at qs (own_number t) (lowest_free table.queues))) ≡ suc (length (live_pts qs))
  length_created {qs} s o =
      join_length s.tidy (own_number t) (own_inside t) (lowest_free table.queues) (record { none_such = o (lowest_free table.queues) ∙ lowest.none_such; small = lowest.small })

-- ---- a decision

-- the task's row keeps all but its trap record, and the table is sound
pub record SoundChange (rows : List Row) (r : Row) (c : Change) : Type 0 where
  pub row : Replaces r c.row
  pub table : SoundTable rows c.table

module _ {rows : List Row} {table : Processes} {a : Attempt} (r : Row) (ready : Ready rows table a r.task) where
  executed : (v : ℕ) → psw_sound v ≡ true → SoundQueues rows (actor_psws table a r.task v) (executed_queues a table.queues r.task)
  executed v h = sound_executed (actor ready v h) r.task ready.listed ready.waits a ready.nonempty (holds ready)

  fate_sound : (f : Fate) → SoundFate table.flag f → SoundChange rows r (fate_in table a r f)
  unfolding fate_in created_in fault_in live_total
  fate_sound (Continues p) h = record {
    row = replaces_self r;
    table =
        after ready (executed p h) (flag_le ready)
        (λ z. omega (arith, room ready z, length_executed (before ready) r.task ready.listed ready.waits a ready.nonempty));
  }
  fate_sound Quits h = record {
    row = replaces_self r;
    table =
        after ready (sound_leave (before ready) (acting_number a r.task) (acting_inside a r.task) (holds ready) ready.nonempty) (flag_le ready)
        (λ z. omega (arith, room ready z, leave_length (tidy ready) (acting_number a r.task) (acting_inside a r.task) ready.nonempty));
  }
  fate_sound (Creates p new) h = go (below_total table.count) below_live
    where
      below_live : below_total table.count ≡ true → suc (length (live_pts table.queues)) < total
      below_live k = subst (λ (n : ℕ). suc n < total) (live_counted table ready.sound.counted).1 (ltb-true (suc table.count) total k)

      go : (b : Bool) → (b ≡ true → suc (length (live_pts table.queues)) < total) → SoundChange rows r (cond b (created_in table a r p new) (fault_in table a r p new))
      go true k =
          let few = room ready h.0 in
          let same_pts = executed_occ (tidy ready) r.task a ready.nonempty in
          record {
            row = replaces_self r;
            table =
                after ready (sound_created ready p new h.1 h.2 few (executed p h.1) same_pts) (flag_le ready)
                (λ z.
                omega (arith, k refl, length_created ready p new h.1 h.2 few (executed p h.1) same_pts, length_executed (before ready) r.task ready.listed ready.waits a ready.nonempty));
          }
      go false k = record {
        row = replaces_trapped r CreateFault p h.1;
        table = after ready (sound_created ready p new h.1 h.2 (room ready h.0) (actor ready p h.1) (λ x. refl)) (omega arith) (λ z. absurd (omega arith));
      }

  pub change_sound : (d : Decision) → SoundDecision table.flag d → SoundChange rows r (change_of table a r d)
  unfolding change_of
  change_sound (Waits w) h = record {
    row = replaces_self r;
    table =
        after ready (sound_waved (before ready) r.task ready.listed ready.waits a w ready.nonempty (holds ready)) (flag_le ready)
        (λ z. omega (arith, room ready z, length_waved (before ready) r.task ready.listed ready.waits a w ready.nonempty));
  }
  change_sound (Traps k p) h = record { row = replaces_trapped r k p h; table = after ready (actor ready p h) (flag_le ready) (room ready) }
  change_sound (Executes e) h = fate_sound e.fate h.fate
