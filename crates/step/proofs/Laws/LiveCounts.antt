-- Stored live counts and those found by counting: of a task, of a turned queue, and after a step.
use Rattle.std.specs.Prelude.{◌≡◌, refl, ◌≢◌, Bool, true, false, cond, ℕ, ◌+◌, ◌-◌, ◌*◌, ◌/◌, ◌%◌, ◌≤◌, ◌<◌, eqb}
use Rattle.std.proofs.Common.{sym, ◌∙◌, arith, length-append}
use Rattle.std.proofs.Math.Path.{ap, ap₂}
use mathlib.Core.List.{List, [], ◌∷◌}
use Rattle.std.proofs.Math.ListN.{length, get_or, set, length-set}
use Rattle.std.proofs.lemmas.List.{length-map}
use Rattle.std.proofs.Math.Seq.{get_or-set_same, get_or-set_other, set-set, set-get_or}
use Rattle.word.proofs.Laws.Bools.{Eq?, same, differ, eq?}
use Rattle.operation.specs.Environment.{Environment}
use Rattle.operation.specs.declared.Decision.{Decision}
use Rattle.step.specs.declared.Attempt.{Attempt}
use Rattle.step.specs.declared.Queue.{Queue}
use Rattle.step.specs.declared.Processes.{Processes}
use Rattle.step.specs.Queues.{task_place, own_number, sfu_number, list_of, head_of, turned, shifted, joined, live_pts, live_counts, live_total}
use Rattle.step.specs.State.{State, no_queue, queue_in, with_queue, live_count, psws_of, processes_at}
use Rattle.step.specs.Act.{with_counts, Stepped, left_at, joined_at, passed_to}
use Rattle.step.specs.Step.{attempt_by}
use Rattle.step.specs.Soundness.{live_sound}
use Rattle.step.proofs.Laws.Queues.{length_list, turned_len, shifted_len, joined_len, length_live, counts_set, counts_get, counts_same, length_counts, len_two}
use Rattle.step.proofs.Laws.Counted.{live_counted, made_live, act_live}
use Rattle.step.proofs.Laws.Occurrences.{length_once}
use Rattle.step.proofs.Laws.Motions.{Tidy}
use Rattle.step.proofs.Laws.Step.{idles, acts, attempts}

-- a test that cannot be true is false
pub differs : (b : Bool) → (b ≡ true → ⊥) → b ≡ false
differs true n = absurd (n refl)
differs false n = refl

-- the count of task t
pub length_processes : (psw : List ℕ) (qs : List Queue) (k : ℕ) → length (processes_at psw qs k) ≡ (queue_in qs k).len
unfolding processes_at psws_of
length_processes psw qs k = length-map (list_of (queue_in qs k)) (λ p. get_or psw p 0) ∙ length_list (queue_in qs k)

pub count_stored : (table : Processes) (t : ℕ) → table.live ≡ live_counts table.queues
    → live_count table t ≡ length (processes_at table.psw table.queues (own_number t)) + length (processes_at table.psw table.queues (sfu_number t))
unfolding live_count own_number sfu_number queue_in
count_stored table t e =
    ap (λ (l : List ℕ). get_or l (task_place t) 0) e ∙ counts_get table.queues (task_place t)
    ∙ sym (ap₂ ◌+◌ (length_processes table.psw table.queues (2 * task_place t)) (length_processes table.psw table.queues (2 * task_place t + 1)))

-- counts that are those of the queues pass the test
pub counted_passes : (table : Processes) → table.live ≡ live_counts table.queues → table.count ≡ live_total table.queues → live_sound table ≡ true
unfolding live_sound
counted_passes table c n = rw (c, n) (made_live table.psw table.queues table.flag)

-- head to tail: as many of each task, and in all
pub turned_counts : (qs : List Queue) (k : ℕ) → live_counts (with_queue qs k (turned (queue_in qs k))) ≡ live_counts qs
unfolding with_queue queue_in
turned_counts qs k = counts_same qs k (turned (get_or qs k no_queue)) (turned_len (get_or qs k no_queue))

-- the total is the sum of the counts
unfoldable pub sum_of : List ℕ → ℕ
sum_of [] = 0
sum_of (n ∷ l) = n + sum_of l

pub total_sum : (qs : List Queue) → live_total qs ≡ sum_of (live_counts qs)
unfolding live_total live_pts live_counts sum_of
total_sum [] = refl
total_sum (q ∷ []) = length-append (list_of q) []
total_sum (q ∷ w ∷ qs) =
    let e : length (live_pts qs) ≡ sum_of (live_counts qs) = total_sum qs in
    omega (arith, e, length-append (list_of q) (live_pts (w ∷ qs)), length-append (list_of w) (live_pts qs))

pub turned_total : (qs : List Queue) (k : ℕ) → live_total (with_queue qs k (turned (queue_in qs k))) ≡ live_total qs
turned_total qs k = total_sum (with_queue qs k (turned (queue_in qs k))) ∙ ap sum_of (turned_counts qs k) ∙ sym (total_sum qs)

-- the head leaves: one fewer; a PT joins: one more
moved_total : (qs : List Queue) (k : ℕ) (x : Queue) → k < length qs → live_total (with_queue qs k x) + (queue_in qs k).len ≡ live_total qs + x.len
unfolding live_total with_queue queue_in
moved_total qs k x h = length_live qs k x h

pub shifted_total : (qs : List Queue) (k : ℕ) → k < length qs → (queue_in qs k).len ≢ 0 → live_total (with_queue qs k (shifted (queue_in qs k))) ≡ live_total qs - 1
shifted_total qs k h n = omega (arith, moved_total qs k (shifted (queue_in qs k)) h, shifted_len (queue_in qs k), n)

pub joined_total : (qs : List Queue) (k p : ℕ) (b : Bool) → k < length qs → (queue_in qs k).len < 64
    → live_total (with_queue qs k (joined (cond b (turned (queue_in qs k)) (queue_in qs k)) p)) ≡ live_total qs + 1
joined_total qs k p true h n =
    let l = turned_len (queue_in qs k) in
    omega (arith, moved_total qs k (joined (turned (queue_in qs k)) p) h, joined_len (turned (queue_in qs k)) p (omega (arith, l, n)), l)
joined_total qs k p false h n = omega (arith, moved_total qs k (joined (queue_in qs k) p) h, joined_len (queue_in qs k) p n)

-- ---- a process that passes from one queue of a task to the other

-- the count of a task's place, by its two queues
pair_count : (qs : List Queue) (j k : ℕ) → j / 2 ≡ k / 2 → j ≢ k → get_or (live_counts qs) (j / 2) 0 ≡ (queue_in qs j).len + (queue_in qs k).len
unfolding queue_in
pair_count qs j k e n = counts_get qs (j / 2) ∙ go (eqb (j % 2) 0) (eq? (j % 2) 0)
  where
    go : (b : Bool) → Eq? (j % 2) 0 b
        → (get_or qs (2 * (j / 2)) no_queue).len + (get_or qs (2 * (j / 2) + 1) no_queue).len ≡ (get_or qs j no_queue).len + (get_or qs k no_queue).len
    go true (same z) =
        let a : 2 * (j / 2) ≡ j = omega (arith, z) in
        let b : 2 * (j / 2) + 1 ≡ k = omega (arith, z, e, n) in
        ap₂ (λ (x y : ℕ). (get_or qs x no_queue).len + (get_or qs y no_queue).len) a b
    go false (differ z) =
        let a : 2 * (j / 2) ≡ k = omega (arith, z, e, n) in
        let b : 2 * (j / 2) + 1 ≡ j = omega (arith, z) in
        let c = ap₂ (λ (x y : ℕ). (get_or qs x no_queue).len + (get_or qs y no_queue).len) a b in
        omega (arith, c)

module _ {psw : List ℕ} {qs : List Queue} (tidy : Tidy psw qs) (j k : ℕ) (from : j < 16) (to : k < 16) (mates : j / 2 ≡ k / 2) (apart : j ≢ k)
    (nonempty : (queue_in qs j).len ≢ 0) where
  pub passed_counts : live_counts (passed_to qs j k) ≡ live_counts qs
  unfolding passed_to left_at joined_at with_queue queue_in
  passed_counts =
      let left = set qs j (shifted (get_or qs j no_queue)) in
      let c = get_or (live_counts qs) (j / 2) 0 in
      let lj = (get_or qs j no_queue).len in
      let lk = (get_or qs k no_queue).len in
      let n : length qs ≡ 16 = tidy.sixteen in
      let short : lk < 64 = omega (arith, two_lengths, tidy_length, nonempty) in
      let other : get_or left k no_queue ≡ get_or qs k no_queue = get_or-set_other qs j k (shifted (get_or qs j no_queue)) no_queue (λ e. apart (sym e)) in
      let pair : c ≡ lj + lk = pair_count qs j k mates apart in
      let first : live_counts left ≡ set (live_counts qs) (j / 2) (c - lj + (shifted (get_or qs j no_queue)).len) = counts_set qs j (shifted (get_or qs j no_queue)) (omega (arith, n)) in
      let wide : j / 2 < length (live_counts qs) = omega (arith, length_counts qs, n) in
      let v = c - lj + (shifted (get_or qs j no_queue)).len in
      let at : get_or (live_counts left) (k / 2) 0 ≡ v =
      ap₂ (λ (l : List ℕ) (i : ℕ). get_or l i 0) first (sym mates) ∙ get_or-set_same (live_counts qs) (j / 2) v 0 wide in
      let x = joined (get_or left k no_queue) (head_of (get_or qs j no_queue)) in
      let grown : x.len ≡ lk + 1 = joined_len (get_or left k no_queue) (head_of (get_or qs j no_queue)) (omega (arith, short, ap (λ (q : Queue). q.len) other)) ∙ ap (λ (q : Queue). q.len + 1) other in
      let back : get_or (live_counts left) (k / 2) 0 - (get_or left k no_queue).len + x.len ≡ c =
      omega (arith, at, ap (λ (q : Queue). q.len) other, grown, pair, shifted_len (get_or qs j no_queue), nonempty) in
      counts_set left k x (omega (arith, length-set qs j (shifted (get_or qs j no_queue)), n))
      ∙ ap (λ (m : ℕ). set (live_counts left) (k / 2) m) back
      ∙ ap₂ (λ (l : List ℕ) (i : ℕ). set l i c) first (sym mates)
      ∙ set-set (live_counts qs) (j / 2) v c
      ∙ set-get_or (live_counts qs) (j / 2) 0
    where
      tidy_length : length (live_pts qs) ≤ 64
      tidy_length = length_once 64 (live_pts qs) tidy.once tidy.small

      two_lengths : (get_or qs j no_queue).len + (get_or qs k no_queue).len ≤ length (live_pts qs)
      two_lengths = len_two qs j k apart (omega (arith, tidy.sixteen)) (omega (arith, tidy.sixteen))

-- the table with its counts as they were
pub passed_made : (table : Processes) (j k : ℕ) (psw : List ℕ) (flag : ℕ) → live_sound table ≡ true → Tidy table.psw table.queues
    → j < 16 → k < 16 → j / 2 ≡ k / 2 → j ≢ k → (queue_in table.queues j).len ≢ 0
    → ◌≡◌ {A = Processes} (record { psw = psw; queues = passed_to table.queues j k; flag = flag; live = table.live; count = table.count })
    (with_counts psw (passed_to table.queues j k) flag)
passed_made table j k psw flag e tidy from to mates apart nonempty =
    let u = live_counted table e in
    let counts = passed_counts tidy j k from to mates apart nonempty in
    ap₂ {C = Processes} (λ l n. record { psw = psw; queues = passed_to table.queues j k; flag = flag; live = l; count = n })
    (u.0 ∙ sym counts) (u.1 ∙ total_sum table.queues ∙ ap sum_of (sym counts) ∙ sym (total_sum (passed_to table.queues j k)))

-- ---- a step or a try

pub attempt_live : (instructions : Environment → Decision) (a : Attempt) (t : ℕ) (s : State) → live_sound s.table.users ≡ true
    → live_sound (attempt_by instructions a t s).state.table.users ≡ true
attempt_live instructions a t s e =
    elim (attempts instructions a t s) [
      | idles q n ↦ ap (λ (x : Stepped). live_sound x.state.table.users) q ∙ e
      | acts r d f q o n k ↦ ap (λ (x : Stepped). live_sound x.state.table.users) k ∙ act_live s a r d
    ]
