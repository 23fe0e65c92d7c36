-- One act of a task: what it does to its own share of the table, to another's, and to the invariant.
use Rattle.std.specs.Prelude.{◌≡◌, ◌≢◌, Bool, cond, List, [], ◌∷◌, ◌++◌, length, set, eqb}
use Rattle.std.proofs.Math.Path.{refl, sym, ap, subst}
use Rattle.std.proofs.Common.{ap₂, ◌∙◌, arith, get_or-set_same, ltb-true, Option, None, Some}
use Rattle.std.proofs.Math.Bool.{true, false}
use Prim.Native.Nat.{ℕ, suc, ◌/◌, ◌%◌, ◌≤◌, ◌<◌}
use Rattle.word.proofs.Laws.Bools.{Eq?, same, differ, eq?}
use Rattle.window.specs.declared.Row.{Row}
use Rattle.operation.specs.declared.Wait.{Wait}
use Rattle.operation.specs.declared.Wait.TheVariants.{Access, Data, Create}
use Rattle.operation.specs.declared.Fate.{Fate}
use Rattle.operation.specs.declared.Fate.TheVariants.{Continues, Quits, Creates}
use Rattle.operation.specs.declared.Decision.{Decision}
use Rattle.operation.specs.declared.Decision.TheVariants.{Waits, Traps, Executes}
use Rattle.step.specs.declared.Attempt.{Attempt}
use Rattle.step.specs.declared.Attempt.TheVariants.{Step, Try}
use Rattle.step.specs.declared.Queue.{Queue}
use Rattle.step.specs.declared.Processes.{Processes}
use Rattle.step.specs.declared.Ending.{Ending}
use Rattle.step.specs.declared.Ending.TheVariants.{Executed, Waved, Trapped}
use Rattle.step.specs.Queues.{task_place, own_number, sfu_number, acting_number, total, below_total, live_total, occ, head_of, live_pts, lowest_free}
use Rattle.step.specs.State.{State, find_row, put_row, queue_in, acting_queue, processes_at}
use Rattle.step.specs.Owned.{Own, owner, own_of, own_in, own}
use Rattle.step.specs.Act.{with_counts, turned_at, left_at, joined_at, passed_to, executed_queues, waved_queues, actor_psws, created_psws, Change, change_of, fate_in, created_in, fault_in, trapped_row, act}
use Rattle.step.proofs.Laws.Occurrences.{rot, rest, first, head_to, Free, free_spec}
use Rattle.step.proofs.Laws.Motions.{Tidy, turn_occ, turn_tidy, turn_own, turn_other, join_tidy, join_own, join_other, leave_tidy, leave_own, leave_other, store_own, store_other, store_tidy, store_free, pass_occ, pass_tidy, pass_from, pass_to, pass_other}
use Rattle.step.proofs.Laws.Rows.{find_task, find_put_same, find_put_other}

-- what no step changes of a row: its number and its bases and limits
abbrev pub fixed : Row → Row
fixed r = record {
  task = r.task;
  cb = r.cb;
  rb = r.rb;
  rl = r.rl;
  pb = r.pb;
  pl = r.pl;
  db = r.db;
  dl = r.dl;
  kind = 0;
  psw = 0;
}

-- the fixed part of a task's row; none: the task is unlisted
abbrev pub fixed_of : Option Row → Option Row
fixed_of None = None
fixed_of (Some r) = Some (fixed r)

unfoldable pub fixed_at : ℕ → State → Option Row
fixed_at t s = fixed_of (find_row t s.rows)

-- the invariant of a run: every PT stands once, and the count is that of the live processes
pub record Inv (s : State) : Type 0 where
  pub tasks : (t : ℕ) (r : Row) → find_row t s.rows ≡ Some r → (1 ≤ t) × (t ≤ 7)
  pub tidy : Tidy s.table.users.psw s.table.users.queues
  pub counted : s.table.users.count ≡ live_total s.table.users.queues

-- ---- the numbers of a task's queues

pub own_inside : (t : ℕ) → own_number t < 16
unfolding own_number task_place
own_inside t = omega arith

pub sfu_inside : (t : ℕ) → sfu_number t < 16
unfolding sfu_number task_place
sfu_inside t = omega arith

pub acting_inside : (a : Attempt) (t : ℕ) → acting_number a t < 16
unfolding acting_number
acting_inside Step t = own_inside t
acting_inside Try t = sfu_inside t

pub own_sfu : (t u : ℕ) → own_number t ≢ sfu_number u
unfolding own_number sfu_number
own_sfu t u e = omega (arith, e)

-- the two stand at one place
pub own_mates : (t : ℕ) → own_number t / 2 ≡ sfu_number t / 2
unfolding own_number sfu_number
own_mates t = omega arith

own_differ : (t u : ℕ) → t ≢ u → t ≤ 7 → u ≤ 7 → own_number t ≢ own_number u
unfolding own_number task_place
own_differ t u n h k e =
    let a : t % 8 ≡ t = omega arith in
    let b : u % 8 ≡ u = omega arith in
    n (omega (arith, e))

sfu_differ : (t u : ℕ) → t ≢ u → t ≤ 7 → u ≤ 7 → sfu_number t ≢ sfu_number u
unfolding sfu_number task_place
sfu_differ t u n h k e =
    let a : t % 8 ≡ t = omega arith in
    let b : u % 8 ≡ u = omega arith in
    n (omega (arith, e))

-- ---- a decision, seen from the task's own share

-- another PSW for the process that acts; it leaves; it has executed; it waits; another joins
abbrev actor_local : Attempt → ℕ → Own → Own
actor_local Step p o = owner o.row (head_to p o.processes) o.waiting
actor_local Try p o = owner o.row o.processes (head_to p o.waiting)

abbrev left_local : Attempt → Own → Own
left_local Step o = owner o.row (rest o.processes) o.waiting
left_local Try o = owner o.row o.processes (rest o.waiting)

abbrev executed_local : Attempt → Own → Own
executed_local Step o = owner o.row (rot o.processes) o.waiting
executed_local Try o = owner o.row (o.processes ++ first o.waiting) (rest o.waiting)

abbrev waved_local : Attempt → Wait → Own → Own
waved_local Step Access o = owner o.row (rot o.processes) o.waiting
waved_local Step Data o = owner o.row (rest o.processes) (o.waiting ++ first o.processes)
waved_local Step Create o = owner o.row (rot o.processes) o.waiting
waved_local Try w o = owner o.row o.processes (rot o.waiting)

abbrev joined_local : ℕ → Own → Own
joined_local new o = owner o.row (o.processes ++ (new ∷ [])) o.waiting

abbrev fate_local : Attempt → Fate → Own → Own
fate_local a (Continues p) o = executed_local a (actor_local a p o)
fate_local a Quits o = left_local a o
fate_local a (Creates p new) o = joined_local new (executed_local a (actor_local a p o))

-- with another row
abbrev with_row : Row → Own → Own
with_row r o = owner r o.processes o.waiting

unfoldable pub local : Attempt → Decision → Own → Own
local a (Waits w) o = waved_local a w o
local a (Traps k p) o = with_row (trapped_row o.row k p) (actor_local a p o)
local a (Executes e) o = fate_local a e.fate o

-- ---- motions of a task's queues: f is what they do to its own share

record Moves (t : ℕ) (f : Own → Own) (psw : List ℕ) (qs : List Queue) (psw' : List ℕ) (qs' : List Queue) : Type 0 where
  tidy : Tidy psw' qs'
  own : (r : Row) → own_of r t psw' qs' ≡ f (own_of r t psw qs)
  others : (k : ℕ) → k < 16 → k ≢ own_number t → k ≢ sfu_number t → processes_at psw' qs' k ≡ processes_at psw qs k

-- one after another
and_then : {t : ℕ} {f g : Own → Own} {psw psw' psw'' : List ℕ} {qs qs' qs'' : List Queue} → Moves t f psw qs psw' qs' → Moves t g psw' qs' psw'' qs''
    → Moves t (λ o. g (f o)) psw qs psw'' qs''
and_then {g = g} m n = record {
  tidy = n.tidy;
  own = λ r. n.own r ∙ ap g (m.own r);
  others = λ k h i j. n.others k h i j ∙ m.others k h i j;
}

sfu_own : (t u : ℕ) → sfu_number t ≢ own_number u
sfu_own t u e = own_sfu u t (sym e)

owner_same : (r : Row) {ps ps' ws ws' : List ℕ} → ps ≡ ps' → ws ≡ ws' → owner r ps ws ≡ owner r ps' ws'
owner_same r e f = ap₂ (owner r) e f

module _ {psw : List ℕ} {qs : List Queue} (tidy : Tidy psw qs) (t : ℕ) where
  -- a PSW for the process that acts
  moves_actor : (a : Attempt) → (queue_in qs (acting_number a t)).len ≢ 0 → (p : ℕ) → Moves t (actor_local a p) psw qs (set psw (head_of (queue_in qs (acting_number a t))) p) qs
  unfolding acting_number
  moves_actor Step n p = record {
    tidy = store_tidy psw qs _ p tidy;
    own = λ r. owner_same r (store_own tidy (own_number t) (own_inside t) n p) (store_other tidy (own_number t) (own_inside t) n p (sfu_number t) (sfu_inside t) (sfu_own t t));
    others = λ k h i j. store_other tidy (own_number t) (own_inside t) n p k h i;
  }
  moves_actor Try n p = record {
    tidy = store_tidy psw qs _ p tidy;
    own = λ r. owner_same r (store_other tidy (sfu_number t) (sfu_inside t) n p (own_number t) (own_inside t) (own_sfu t t)) (store_own tidy (sfu_number t) (sfu_inside t) n p);
    others = λ k h i j. store_other tidy (sfu_number t) (sfu_inside t) n p k h j;
  }

  -- it leaves
  moves_left : (a : Attempt) → (queue_in qs (acting_number a t)).len ≢ 0 → Moves t (left_local a) psw qs psw (left_at qs (acting_number a t))
  unfolding acting_number
  moves_left Step n = record {
    tidy = leave_tidy tidy (own_number t) (own_inside t) n;
    own = λ r. owner_same r (leave_own tidy (own_number t) (own_inside t) n) (leave_other psw qs (own_number t) (sfu_number t) (sfu_own t t));
    others = λ k h i j. leave_other psw qs (own_number t) k i;
  }
  moves_left Try n = record {
    tidy = leave_tidy tidy (sfu_number t) (sfu_inside t) n;
    own = λ r. owner_same r (leave_other psw qs (sfu_number t) (own_number t) (own_sfu t t)) (leave_own tidy (sfu_number t) (sfu_inside t) n);
    others = λ k h i j. leave_other psw qs (sfu_number t) k j;
  }

  -- its queue turns
  moves_turn_own : Moves t (executed_local Step) psw qs psw (turned_at qs (own_number t))
  moves_turn_own = record {
    tidy = turn_tidy tidy (own_number t) (own_inside t);
    own = λ r. owner_same r (turn_own tidy (own_number t) (own_inside t)) (turn_other psw qs (own_number t) (sfu_number t) (sfu_own t t));
    others = λ k h i j. turn_other psw qs (own_number t) k i;
  }

  moves_turn_sfu : (w : Wait) → Moves t (waved_local Try w) psw qs psw (turned_at qs (sfu_number t))
  moves_turn_sfu w = record {
    tidy = turn_tidy tidy (sfu_number t) (sfu_inside t);
    own = λ r. owner_same r (turn_other psw qs (sfu_number t) (own_number t) (own_sfu t t)) (turn_own tidy (sfu_number t) (sfu_inside t));
    others = λ k h i j. turn_other psw qs (sfu_number t) k j;
  }

  -- it passes from the SFU queue to the task's queue
  moves_back : (queue_in qs (sfu_number t)).len ≢ 0 → Moves t (executed_local Try) psw qs psw (passed_to qs (sfu_number t) (own_number t))
  moves_back n = record {
    tidy = pass_tidy tidy (sfu_number t) (own_number t) (sfu_inside t) (own_inside t) (sfu_own t t) n;
    own = λ r.
        owner_same r (pass_to tidy (sfu_number t) (own_number t) (sfu_inside t) (own_inside t) (sfu_own t t) n)
        (pass_from tidy (sfu_number t) (own_number t) (sfu_inside t) (own_inside t) (sfu_own t t) n);
    others = λ k h i j. pass_other tidy (sfu_number t) (own_number t) (sfu_inside t) (own_inside t) (sfu_own t t) n k j i;
  }

  -- it passes from the task's queue to the SFU queue
  moves_out : (queue_in qs (own_number t)).len ≢ 0 → Moves t (waved_local Step Data) psw qs psw (passed_to qs (own_number t) (sfu_number t))
  moves_out n = record {
    tidy = pass_tidy tidy (own_number t) (sfu_number t) (own_inside t) (sfu_inside t) (own_sfu t t) n;
    own = λ r.
        owner_same r (pass_from tidy (own_number t) (sfu_number t) (own_inside t) (sfu_inside t) (own_sfu t t) n)
        (pass_to tidy (own_number t) (sfu_number t) (own_inside t) (sfu_inside t) (own_sfu t t) n);
    others = λ k h i j. pass_other tidy (own_number t) (sfu_number t) (own_inside t) (sfu_inside t) (own_sfu t t) n k i j;
  }

  moves_executed : (a : Attempt) → (queue_in qs (acting_number a t)).len ≢ 0 → Moves t (executed_local a) psw qs psw (executed_queues a qs t)
  unfolding acting_number executed_queues
  moves_executed Step n = moves_turn_own
  moves_executed Try n = moves_back n

  moves_waved : (a : Attempt) (w : Wait) → (queue_in qs (acting_number a t)).len ≢ 0 → Moves t (waved_local a w) psw qs psw (waved_queues a w qs t)
  unfolding acting_number waved_queues
  moves_waved Step Access n = moves_turn_own
  moves_waved Step Data n = moves_out n
  moves_waved Step Create n = moves_turn_own
  moves_waved Try w n = moves_turn_sfu w

  -- executed queues have the same PTs
  pub executed_occ : (a : Attempt) → (queue_in qs (acting_number a t)).len ≢ 0 → (p : ℕ) → occ p (live_pts (executed_queues a qs t)) ≡ occ p (live_pts qs)
  unfolding acting_number executed_queues
  executed_occ Step n p = turn_occ tidy (own_number t) (own_inside t) p
  executed_occ Try n p = pass_occ tidy (sfu_number t) (own_number t) (sfu_inside t) (own_inside t) (sfu_own t t) n p

  -- a process with a free PT joins the task's queue
  moves_join : (p new : ℕ) → Free p 64 (live_pts qs) → Moves t (joined_local new) psw qs (set psw p new) (joined_at qs (own_number t) p)
  moves_join p new f =
      let stored = store_tidy psw qs p new tidy in
      record {
        tidy = join_tidy stored (own_number t) (own_inside t) p f;
        own = λ r.
            owner_same r
            (join_own stored (own_number t) (own_inside t) p f
            ∙ ap₂ {A = List ℕ} {B = ℕ} {C = List ℕ} (λ l n. l ++ (n ∷ [])) (store_free psw qs p new (own_number t) tidy (own_inside t) f)
            (get_or-set_same psw p new 0 (omega (arith, tidy.wide, f.small))))
            (join_other (set psw p new) qs (own_number t) p (sfu_number t) (sfu_own t t) ∙ store_free psw qs p new (sfu_number t) tidy (sfu_inside t) f);
        others = λ k h i j. join_other (set psw p new) qs (own_number t) p k i ∙ store_free psw qs p new k tidy h f;
      }

-- ---- a change

-- the flag stays or goes up: what holds of it, and of 1, holds after a step
fate_flag : (P : ℕ → Type 0) → P 1 → (table : Processes) (a : Attempt) (r : Row) (f : Fate) → P table.flag → P (fate_in table a r f).table.flag
unfolding fate_in created_in fault_in
fate_flag P up table a r (Continues p) k = k
fate_flag P up table a r Quits k = k
fate_flag P up table a r (Creates p new) k = go (below_total table.count)
  where
    go : (b : Bool) → P (cond b (created_in table a r p new) (fault_in table a r p new)).table.flag
    go true = k
    go false = up

pub act_flag : (P : ℕ → Type 0) → P 1 → (s : State) (a : Attempt) (r : Row) (d : Decision) → P s.table.users.flag → P (act s a r d).state.table.users.flag
unfolding act change_of
act_flag P up s a r (Waits w) k = k
act_flag P up s a r (Traps t p) k = k
act_flag P up s a r (Executes e) k = fate_flag P up s.table.users a r e.fate k

-- how a process that decides so ends, where the flag is down after it
abbrev pub ending_of : Decision → Ending
ending_of (Waits w) = Waved
ending_of (Traps k p) = Trapped k p
ending_of (Executes e) = Executed

-- a change with the flag down after it
record Good (table : Processes) (a : Attempt) (r : Row) (d : Decision) (c : Change) : Type 0 where
  tidy : Tidy c.table.psw c.table.queues
  counted : c.table.count ≡ live_total c.table.queues
  mine : own_of c.row r.task c.table.psw c.table.queues ≡ local a d (own_of r r.task table.psw table.queues)
  others : (k : ℕ) → k < 16 → k ≢ own_number r.task → k ≢ sfu_number r.task
      → processes_at c.table.psw c.table.queues k ≡ processes_at table.psw table.queues k
  ends : c.ending ≡ ending_of d

module _ (table : Processes) (a : Attempt) (r : Row) (tidy : Tidy table.psw table.queues) (counted : table.count ≡ live_total table.queues)
    (nonempty : (acting_queue table a r.task).len ≢ 0) where
  -- the queues and the PSWs move, the row and the flag stay
  good_moves : (d : Decision) (e : Ending) (f : Own → Own) (psw : List ℕ) (qs : List Queue) → Moves r.task f table.psw table.queues psw qs
      → f (own_of r r.task table.psw table.queues) ≡ local a d (own_of r r.task table.psw table.queues) → e ≡ ending_of d
      → Good table a r d (record { row = r; table = with_counts psw qs table.flag; ending = e })
  good_moves d e f psw qs m is ends = record { tidy = m.tidy; counted = refl; mine = m.own r ∙ is; others = m.others; ends = ends }

  -- the creator goes to the tail of the task's queue, and the created process behind it
  moves_created : (p new : ℕ) → length (live_pts table.queues) < 64
      → Moves r.task (fate_local a (Creates p new)) table.psw table.queues (created_psws table a r.task p new)
      (joined_at (executed_queues a table.queues r.task) (own_number r.task) (lowest_free table.queues))
  unfolding created_psws actor_psws lowest_free
  moves_created p new k =
      let m = and_then (moves_actor tidy r.task a nonempty p) (moves_executed (store_tidy table.psw table.queues _ p tidy) r.task a nonempty) in
      let f : Free (lowest_free table.queues) 64 (live_pts table.queues) = free_spec 64 (live_pts table.queues) k in
      and_then m (moves_join m.tidy r.task (lowest_free table.queues) new (record { none_such = executed_occ tidy r.task a nonempty (lowest_free table.queues) ∙ f.none_such; small = f.small }))

  good_fate : (d : Decision) (f : Fate) → ((o : Own) → local a d o ≡ fate_local a f o) → ending_of d ≡ Executed
      → (fate_in table a r f).table.flag ≡ 0 → Good table a r d (fate_in table a r f)
  unfolding fate_in created_in fault_in actor_psws live_total
  good_fate d (Continues p) e x z =
      good_moves d Executed (fate_local a (Continues p)) _ _
      (and_then (moves_actor tidy r.task a nonempty p) (moves_executed (store_tidy table.psw table.queues _ p tidy) r.task a nonempty)) (sym (e _)) (sym x)
  good_fate d Quits e x z = good_moves d Executed (fate_local a Quits) _ _ (moves_left tidy r.task a nonempty) (sym (e _)) (sym x)
  good_fate d (Creates p new) e x z = go (below_total table.count) (λ k. below_live k) z
    where
      below_live : below_total table.count ≡ true → suc (length (live_pts table.queues)) < total
      below_live k = subst (λ (n : ℕ). suc n < total) counted (ltb-true (suc table.count) total k)

      go : (b : Bool) → (b ≡ true → suc (length (live_pts table.queues)) < total)
          → (cond b (created_in table a r p new) (fault_in table a r p new)).table.flag ≡ 0
          → Good table a r d (cond b (created_in table a r p new) (fault_in table a r p new))
      go true k z = good_moves d Executed (fate_local a (Creates p new)) _ _ (moves_created p new (omega (arith, k refl))) (sym (e _)) (sym x)
      go false k z = absurd (omega arith)

  good : (d : Decision) → (change_of table a r d).table.flag ≡ 0 → Good table a r d (change_of table a r d)
  unfolding change_of local trapped_row actor_psws
  good (Waits w) z = good_moves (Waits w) Waved (waved_local a w) _ _ (moves_waved tidy r.task a w nonempty) refl refl
  good (Traps k p) z =
      let m = moves_actor tidy r.task a nonempty p in
      record {
        tidy = m.tidy;
        counted = refl;
        mine = ap (with_row (trapped_row r k p)) (m.own r) ∙ trapped_row_lem a;
        others = m.others;
        ends = refl;
      }
    where
      trapped_row_lem : (a : Attempt) → with_row (trapped_row r k p) (actor_local a p (own_of r r.task table.psw table.queues))
          ≡ with_row (trapped_row (own_of r r.task table.psw table.queues).row k p) (actor_local a p (own_of r r.task table.psw table.queues))
      trapped_row_lem a = refl
  good (Executes e) z = good_fate (Executes e) e.fate (λ o. refl) refl z

-- what stays of the row, whatever the flag
fate_fixed : (table : Processes) (a : Attempt) (r : Row) (f : Fate) → fixed (fate_in table a r f).row ≡ fixed r
unfolding fate_in created_in fault_in trapped_row
fate_fixed table a r (Continues p) = refl
fate_fixed table a r Quits = refl
fate_fixed table a r (Creates p new) = go (below_total table.count)
  where
    go : (b : Bool) → fixed (cond b (created_in table a r p new) (fault_in table a r p new)).row ≡ fixed r
    go true = refl
    go false = refl

pub change_fixed : (table : Processes) (a : Attempt) (r : Row) (d : Decision) → fixed (change_of table a r d).row ≡ fixed r
unfolding change_of trapped_row
change_fixed table a r (Waits w) = refl
change_fixed table a r (Traps k p) = refl
change_fixed table a r (Executes e) = fate_fixed table a r e.fate

-- ---- the same of the whole state

module _ (s : State) (a : Attempt) (t : ℕ) (r : Row) (at : find_row t s.rows ≡ Some r) (d : Decision) where
  task_t : r.task ≡ t
  task_t = find_task t s.rows r at

  changed_task : (change_of s.table.users a r d).row.task ≡ t
  changed_task = ap (λ (x : Row). x.task) (change_fixed s.table.users a r d) ∙ task_t

  rows_act : (act s a r d).state.rows ≡ put_row t (change_of s.table.users a r d).row s.rows
  unfolding act
  rows_act = ap (λ (n : ℕ). put_row n (change_of s.table.users a r d).row s.rows) task_t

  find_act : find_row t (act s a r d).state.rows ≡ Some (change_of s.table.users a r d).row
  find_act = ap (find_row t) rows_act ∙ find_put_same t s.rows r (change_of s.table.users a r d).row at changed_task

  find_act_other : (u : ℕ) → t ≢ u → find_row u (act s a r d).state.rows ≡ find_row u s.rows
  find_act_other u ne = ap (find_row u) rows_act ∙ find_put_other u t s.rows (change_of s.table.users a r d).row ne changed_task

  -- no act changes what is fixed of a row
  pub fixed_act : (u : ℕ) → fixed_at u (act s a r d).state ≡ fixed_at u s
  unfolding fixed_at
  fixed_act u = go (eqb t u) (eq? t u)
    where
      go : (b : Bool) → Eq? t u b → fixed_at u (act s a r d).state ≡ fixed_at u s
      go true (same k) =
          subst (λ (v : ℕ). fixed_at v (act s a r d).state ≡ fixed_at v s) k
          (ap fixed_of find_act ∙ ap Some (change_fixed s.table.users a r d) ∙ ap fixed_of (sym at))
      go false (differ k) = ap fixed_of (find_act_other u k)

  module _ (inv : Inv s) (nonempty : (acting_queue s.table.users a t).len ≢ 0) (down : (act s a r d).state.table.users.flag ≡ 0) where
    facts : Good s.table.users a r d (change_of s.table.users a r d)
    unfolding act
    facts =
        good s.table.users a r inv.tidy inv.counted
        (subst (λ (x : ℕ). (acting_queue s.table.users a x).len ≢ 0) (sym task_t) nonempty) d down

    pub own_act : own t (act s a r d).state ≡ Some (local a d (own_of r t s.table.users.psw s.table.users.queues))
    unfolding own act
    own_act =
        ap (own_in (change_of s.table.users a r d).table t) find_act
        ∙ ap Some
        (subst (λ (x : ℕ). own_of (change_of s.table.users a r d).row x (change_of s.table.users a r d).table.psw (change_of s.table.users a r d).table.queues
        ≡ local a d (own_of r x s.table.users.psw s.table.users.queues))
        task_t facts.mine)

    pub act_ends : (act s a r d).ending ≡ ending_of d
    unfolding act
    act_ends = facts.ends

    pub own_act_other : (u : ℕ) → t ≢ u → own u (act s a r d).state ≡ own u s
    unfolding own act
    own_act_other u ne = ap (own_in (change_of s.table.users a r d).table u) (find_act_other u ne) ∙ go (find_row u s.rows) refl
      where
        go : (o : Option Row) → find_row u s.rows ≡ o → own_in (change_of s.table.users a r d).table u o ≡ own_in s.table.users u o
        go None e = refl
        go (Some x) e =
            let h : t ≤ 7 = (inv.tasks t r at).1 in
            let l : u ≤ 7 = (inv.tasks u x e).1 in
            ap Some
            (owner_same x
            (facts.others (own_number u) (own_inside u) (λ k. own_differ t u ne h l (ap own_number (sym task_t) ∙ sym k)) (λ k. own_sfu u r.task k))
            (facts.others (sfu_number u) (sfu_inside u) (λ k. own_sfu r.task u (sym k)) (λ k. sfu_differ t u ne h l (ap sfu_number (sym task_t) ∙ sym k))))

    pub act_inv : Inv (act s a r d).state
    unfolding act
    act_inv = record { tasks = λ u x e. go u x e (eqb t u) (eq? t u); tidy = facts.tidy; counted = facts.counted }
      where
        go : (u : ℕ) (x : Row) → find_row u (act s a r d).state.rows ≡ Some x → (b : Bool) → Eq? t u b → (1 ≤ u) × (u ≤ 7)
        go u x e true (same k) = subst (λ (y : ℕ). (1 ≤ y) × (y ≤ 7)) k (inv.tasks t r at)
        go u x e false (differ k) = inv.tasks u x (sym (find_act_other u k) ∙ e)
