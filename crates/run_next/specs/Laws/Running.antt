-- The loop over the attempts of a run: an idle item, an attempt, the end.
use Rattle.std.specs.Prelude.{◌≡◌, ◌≢◌, Bool, List, ◌∷◌, ℕ, suc, ◌+◌, ◌*◌, ◌≤◌, ◌<◌, eqb, length, get_or, drop, Option, None, Some}
use Rattle.std.proofs.Math.Path.{refl, sym, ap, subst}
use Rattle.std.proofs.Common.{◌∙◌, true≢false, arith, drop_of_length-le, drop-cons}
use Rattle.std.proofs.Math.Bool.{true, false, cond, not}
use Rattle.word.proofs.Laws.Bools.{Eq?, same, differ, eq?}
use Rattle.window.specs.declared.Row.{Row}
use Rattle.operation.specs.declared.Course.{Course}
use Rattle.operation.specs.Decide.{decide}
use Rattle.step.specs.declared.Attempt.{Attempt}
use Rattle.step.specs.declared.Attempt.TheVariants.{Step, Try}
use Rattle.step.specs.declared.Ending.{Ending}
use Rattle.step.specs.declared.Ending.TheVariants.{Executed, Waved, Trapped, Idle}
use Rattle.step.specs.declared.Queue.{Queue}
use Rattle.step.specs.Queues.{numbers, sfu_number, acting_number, head_of}
use Rattle.step.specs.State.{State, find_row, queue_in, task_queue}
use Rattle.step.specs.Act.{Stepped}
use Rattle.step.specs.Step.{no_trap, attempt_by, has_process, step_follows, tries_of}
use Rattle.step.proofs.Laws.Step.{idle_empty, idle_trapped, idle_unlisted}
use Rattle.run.specs.declared.Counts.{Counts}
use Rattle.run.specs.Run.{counts, plus, counts_of, counted, Tally, no_tally, tallied, run_by, run}
use Rattle.run.specs.Code.Attempts.{added, tried, stepped, run_from}
use Rattle.run.proofs.Laws.Attempts.{tallied_tried, from_step, from_try, from_no_try}
use Rattle.run.proofs.Laws.Run.{sum_counted, tries_counted}
use Rattle.run_rings.specs.Code.Records.{rows_in}
use Rattle.run_rings.specs.Laws.Rings.{len_in}
use Rattle.run_rings.specs.Laws.Rows.{listed, listed_kind}
use Rattle.run_next.specs.declared.NextRole.TheVariants.{Alone, Several, Follows, Tries}
use Rattle.run_next.specs.Code.Next.{next_is, next_at, only, standing, Acting, alone, several, follows, tries, attempt_as, had_in, goes_on}
use Rattle.run_next.specs.Code.Settled.{Lines, lines, queues_of, attempt_of, result_by, Settles}
use Rattle.run_next.specs.Code.Stands.{StandsAt, Between}
use Rattle.run_next.specs.Code.Numbers.{Cells, state_from, Attempted}
use Rattle.run_next.specs.Code.Tally.{attempt_counts}
use Rattle.run_next.specs.Code.Running.{Runs, Standing, before, between, Running}
use Rattle.run_next.specs.Laws.Next.{own_number_lem, sfu_number_lem, stands_sfu, stands_own}
use Rattle.run_next.specs.Laws.Stands.{stands_acting, between_acting, not_idle, stands_kept, between_kept}
use Rattle.run_next.specs.Laws.Numbers.{step_at}

-- ---- one attempt more of a run

add-one : (i : ℕ) → i + 1 ≡ suc i
add-one i = omega arith

-- the items from the ith on
first_item : (tried : Bool) (l : List ℕ) (i : ℕ) (s : State) (c : Tally) → i < length l
    → run_from decide tried (drop i l) s c ≡ run_from decide tried (get_or l i 0 ∷ drop (suc i) l) s c
first_item tried l i s c h = ap (λ (ts : List ℕ). run_from decide tried ts s c) (drop-cons l i 0 h)

module _ (l : List ℕ) (i : ℕ) (s₀ s s' : State) (c : Tally) (e : Ending) (here : i < length l) where
  abbrev t : ℕ
  t = get_or l i 0

  abbrev ts : List ℕ
  ts = drop (suc i) l

  -- the items behind
  behind : (c' : Tally) → run_from decide false (drop (suc i) l) s' c' ≡ run l s₀ → run_from decide false (drop (i + 1) l) s' c' ≡ run l s₀
  behind c' k = ap (λ (j : ℕ). run_from decide false (drop j l) s' c') (add-one i) ∙ k

  step_then : attempt_by decide Step t s ≡ record { state = s'; ending = e } → run_from decide true (t ∷ ts) s c ≡ run_from decide false ts s' (tallied t (stepped e) c)
  step_then q = from_step decide t ts s c ∙ ap (λ (y : Stepped). run_from decide false ts y.state (tallied t (stepped y.ending) c)) q

  -- the step of an item, which has made its try or makes none
  pub steps_on : (tried : Bool) → (tried ≡ false → attempt_by decide Try t s ≡ record { state = s; ending = Idle })
      → attempt_by decide Step t s ≡ record { state = s'; ending = e } → Runs l i tried s₀ s c → Runs l (i + 1) false s₀ s' (added t (counts_of e 0) c)
  unfolding tallied counted added
  steps_on tried idle q r = record {
    within = omega (arith, here);
    counts = omega (arith, r.counts, sum_counted (stepped e) c.counts);
    tries = few tried r.tries;
    runs = behind (tallied t (stepped e) c) (sym (first tried idle) ∙ r.runs);
  }
    where
      few : (b : Bool) → c.counts.tries ≤ i + cond b 1 0 → (plus c.counts (counts_of e 0)).tries ≤ i + 1 + 0
      few true h = omega (arith, h, tries_counted (stepped e) c.counts)
      few false h = omega (arith, h, tries_counted (stepped e) c.counts)

      first : (b : Bool) → (b ≡ false → attempt_by decide Try t s ≡ record { state = s; ending = Idle })
          → run_from decide b (drop i l) s c ≡ run_from decide false ts s' (tallied t (stepped e) c)
      first true h = first_item true l i s c here ∙ step_then q
      first false h = first_item false l i s c here ∙ from_no_try decide t ts s c (h refl) ∙ step_then q

  -- a try
  module _ (acts : e ≢ Idle) (q : attempt_by decide Try t s ≡ record { state = s'; ending = e }) (had : Bool) (has : has_process s.table.users t ≡ had) (r : Runs l i false s₀ s c) where
    one : (x : Ending) → x ≢ Idle → tries_of x ≡ 1
    unfolding tries_of
    one Executed n = refl
    one Waved n = refl
    one (Trapped k p) n = refl
    one Idle n = absurd (n refl)

    goes_with : (b : Bool) → step_follows had e ≡ b
        → run_from decide false (drop i l) s c ≡ cond b (run_from decide true (t ∷ ts) s' (tried t 1 c)) (run_from decide false ts s' (tallied t (stepped e) (tried t 1 c)))
    goes_with b f =
        first_item false l i s c here ∙ from_try decide t ts s c
        ∙ ap (λ (y : Stepped). cond (step_follows (has_process s.table.users t) y.ending) (run_from decide true (t ∷ ts) y.state (tried t (tries_of y.ending) c))
        (run_from decide false ts y.state (tallied t (stepped y.ending) (tried t (tries_of y.ending) c)))) q
        ∙ ap (λ (n : ℕ). cond (step_follows (has_process s.table.users t) e) (run_from decide true (t ∷ ts) s' (tried t n c))
        (run_from decide false ts s' (tallied t (stepped e) (tried t n c)))) (one e acts)
        ∙ ap (λ (h : Bool). cond (step_follows h e) (run_from decide true (t ∷ ts) s' (tried t 1 c)) (run_from decide false ts s' (tallied t (stepped e) (tried t 1 c)))) has
        ∙ ap (λ (b : Bool). cond b (run_from decide true (t ∷ ts) s' (tried t 1 c)) (run_from decide false ts s' (tallied t (stepped e) (tried t 1 c)))) f

    -- that a step follows
    pub tries_on : step_follows had e ≡ true → Runs l i true s₀ s' (added t (counts 0 0 0 0 1) c)
    unfolding tried added plus
    tries_on f = record {
      within = r.within;
      counts = omega (arith, r.counts);
      tries = omega (arith, r.tries);
      runs = first_item true l i s' (tried t 1 c) here ∙ sym (goes_with true f) ∙ r.runs;
    }

    -- that ends its item
    pub try_ends : step_follows had e ≡ false → Runs l (i + 1) false s₀ s' (added t (counts_of e 1) c)
    unfolding tallied counted added
    try_ends f =
        let k : tallied t (record { ending = e; tries = 1 }) c ≡ tallied t (stepped e) (tried t 1 c) = tallied_tried t e 1 c in
        record {
          within = omega (arith, here);
          counts = omega (arith, r.counts, sum_counted (record { ending = e; tries = 1 }) c.counts);
          tries = omega (arith, r.tries, tries_counted (record { ending = e; tries = 1 }) c.counts);
          runs = behind (added t (counts_of e 1) c) (ap (run_from decide false ts s') k ∙ sym (goes_with false f) ∙ r.runs);
        }

-- ---- the start, and the end

pub starts : (l : List ℕ) (s₀ s : State) → s ≡ s₀ → Runs l 0 false s₀ s no_tally
unfolding run run_from
starts l s₀ s e = record { within = omega arith; counts = refl; tries = omega arith; runs = ap (λ (s : State). run_by decide tallied l s no_tally) e }

pub ends : (l : List ℕ) (i : ℕ) (s₀ s : State) (c : Tally) (tried : Bool) → length l ≤ i → Runs l i tried s₀ s c → record { state = s; notes = c } ≡ run l s₀
unfolding run_by run_from
ends l i s₀ s c true h r = sym (ap (λ (ts : List ℕ). run_from decide true ts s c) (drop_of_length-le l h)) ∙ r.runs
ends l i s₀ s c false h r = sym (ap (λ (ts : List ℕ). run_from decide false ts s c) (drop_of_length-le l h)) ∙ r.runs

-- ---- the numbers

step? : Attempt → Bool
step? Step = true
step? Try = false

step_try : Step ≡ Try → ⊥
unfolding step?
step_try e = true≢false (ap step? e)

module _ (l : List ℕ) (i : ℕ) (s₀ : State) (rows : List Row) (spans : List ℕ) (x : Lines) (m : Cells) (c : Tally) (going : Running l i s₀ rows spans x m c) (here : i < length l)
    (small : get_or l i 0 < numbers) where
  abbrev task : ℕ
  task = get_or l i 0

  abbrev queues : List Queue
  queues = queues_of x

  abbrev now : State
  now = state_from rows x m

  empty_own : task_queue now.table.users task ≡ queue_in queues (2 * task)
  unfolding state_from
  empty_own = ap (queue_in queues) (own_number_lem task small)

  empty_sfu : queue_in now.table.users.queues (sfu_number task) ≡ queue_in queues (2 * task + 1)
  unfolding state_from
  empty_sfu = ap (queue_in queues) (sfu_number_lem task small)

  -- an active task without an attempt has no process
  module _ (idle : next_at x.next task ≡ None) (stands : next_at x.next task ≡ standing false task queues) where
    not_acting : Acting task x.next queues → ⊥
    not_acting (alone e p q) = let z : None ≡ next_is (head_of (queue_in queues (2 * task))) Alone = sym idle ∙ e in cc
    not_acting (several e p q) = let z : None ≡ next_is (head_of (queue_in queues (2 * task))) Several = sym idle ∙ e in cc
    not_acting (follows e p) = let z : None ≡ next_is (head_of (queue_in queues (2 * task))) Follows = sym idle ∙ e in cc
    not_acting (tries e p) = let z : None ≡ next_is (head_of (queue_in queues (2 * task + 1))) Tries = sym idle ∙ e in cc

    no_sfu : (queue_in queues (2 * task + 1)).len ≡ 0
    no_sfu = on (eqb (queue_in queues (2 * task + 1)).len 0) (eq? (queue_in queues (2 * task + 1)).len 0)
      where
        on : (b : Bool) → Eq? (queue_in queues (2 * task + 1)).len 0 b → (queue_in queues (2 * task + 1)).len ≡ 0
        on true (same e) = e
        on false (differ n) = absurd (not_acting (tries (stands ∙ stands_sfu task queues n) (omega (arith, n))))

    no_own : (queue_in queues (2 * task)).len ≡ 0
    unfolding only
    no_own = on (eqb (queue_in queues (2 * task)).len 0) (eq? (queue_in queues (2 * task)).len 0)
      where
        one : (b : Bool) → Eq? (queue_in queues (2 * task)).len 1 b → (queue_in queues (2 * task)).len ≢ 0
            → next_at x.next task ≡ next_is (head_of (queue_in queues (2 * task))) (cond b Alone Several) → Acting task x.next queues
        one true (same e) n k = alone k e no_sfu
        one false (differ e) n k = several k (omega (arith, e, n)) no_sfu

        on : (b : Bool) → Eq? (queue_in queues (2 * task)).len 0 b → (queue_in queues (2 * task)).len ≡ 0
        on true (same e) = e
        on false (differ n) =
            absurd (not_acting (one (eqb (queue_in queues (2 * task)).len 1) (eq? (queue_in queues (2 * task)).len 1) n (stands ∙ stands_own task queues no_sfu n)))

    acting_none : (a : Attempt) → (queue_in now.table.users.queues (acting_number a task)).len ≡ 0
    unfolding acting_number
    acting_none Step = ap (λ (q : Queue). q.len) empty_own ∙ no_own
    acting_none Try = ap (λ (q : Queue). q.len) empty_sfu ∙ no_sfu

    active_idle : (a : Attempt) → attempt_by decide a task now ≡ record { state = now; ending = Idle }
    active_idle a = idle_empty decide a task now (acting_none a)

  -- a task that has trapped, or is unlisted
  trapped_idle : get_or x.kinds task 0 ≢ no_trap → (a : Attempt) → attempt_by decide a task now ≡ record { state = now; ending = Idle }
  unfolding state_from
  trapped_idle n a = on (find_row task (rows_in x.kinds x.stored rows)) refl
    where
      on : (o : Option Row) → find_row task (rows_in x.kinds x.stored rows) ≡ o → attempt_by decide a task now ≡ record { state = now; ending = Idle }
      on None e = idle_unlisted decide a task now e
      on (Some r) e =
          idle_trapped decide a task now r e (λ q. n (sym (listed_kind x.kinds x.stored task rows r (listed x.kinds x.stored task rows r e)) ∙ q))

  no_attempt_lem : next_at x.next task ≡ None → StandsAt x.kinds x.next queues task → (a : Attempt) → attempt_by decide a task now ≡ record { state = now; ending = Idle }
  no_attempt_lem up s a = on (eqb (get_or x.kinds task 0) no_trap) (eq? (get_or x.kinds task 0) no_trap)
    where
      on : (b : Bool) → Eq? (get_or x.kinds task 0) no_trap b → attempt_by decide a task now ≡ record { state = now; ending = Idle }
      on true (same e) = active_idle up (s.active e) a
      on false (differ n) = trapped_idle n a

  -- an idle item
  pub idles_on : next_at x.next task ≡ None → Running l (i + 1) s₀ rows spans x m (added task (counts_of Idle 0) c)
  unfolding standing
  idles_on up = on going.tried going.runs going.stands
    where
      on : (b : Bool) → Runs l i b s₀ now c → Standing l i x.kinds x.next queues b → Running l (i + 1) s₀ rows spans x m (added task (counts_of Idle 0) c)
      on true r (between k b) = let z : None ≡ next_is (head_of (queue_in queues (2 * task))) Follows = sym up ∙ b.here in cc
      on false r (before s) = record {
        tried = false;
        runs = steps_on l i s₀ now now c Idle here false (λ _. no_attempt_lem up (s.stands task small) Try) (no_attempt_lem up (s.stands task small) Step) r;
        numbers = going.numbers;
        stands = before s;
      }

  -- an attempt
  module _ (up : next_at x.next task ≢ None) where
    pub acting_now : Acting task x.next (queues_of x)
    acting_now = on going.tried going.stands
      where
        on : (b : Bool) → Standing l i x.kinds x.next queues b → Acting task x.next queues
        on true (between k b) = between_acting x.kinds x.next queues task b
        on false (before s) = stands_acting x.kinds x.next queues task (s.stands task small) up

    pub untrapped_now : get_or x.kinds task 0 ≡ no_trap
    untrapped_now = on going.tried going.stands
      where
        by : (b : Bool) → Eq? (get_or x.kinds task 0) no_trap b → StandsAt x.kinds x.next queues task → get_or x.kinds task 0 ≡ no_trap
        by true (same e) s = e
        by false (differ n) s = absurd (up (s.idle n))

        on : (b : Bool) → Standing l i x.kinds x.next queues b → get_or x.kinds task 0 ≡ no_trap
        on true (between k b) = b.active
        on false (before s) = by (eqb (get_or x.kinds task 0) no_trap) (eq? (get_or x.kinds task 0) no_trap) (s.stands task small)

    others_now : (u : ℕ) → u < numbers → u ≢ task → StandsAt x.kinds x.next queues u
    others_now = on going.tried going.stands
      where
        on : (b : Bool) → Standing l i x.kinds x.next queues b → (u : ℕ) → u < numbers → u ≢ task → StandsAt x.kinds x.next queues u
        on true (between k b) = b.stands
        on false (before s) = λ u h n. s.stands u h

    -- a step without a try: nothing waits in the SFU queue
    step_alone : (b : Bool) → Standing l i x.kinds x.next queues b → attempt_of task x ≡ Step → b ≡ false → attempt_by decide Try task now ≡ record { state = now; ending = Idle }
    unfolding acting_number attempt_as
    step_alone true (between k b) a f = absurd (true≢false f)
    step_alone false (before s) a f = idle_empty decide Try task now (ap (λ (q : Queue). q.len) empty_sfu ∙ on (eqb (queue_in queues (2 * task + 1)).len 0) (eq? (queue_in queues (2 * task + 1)).len 0))
      where
        on : (b : Bool) → Eq? (queue_in queues (2 * task + 1)).len 0 b → (queue_in queues (2 * task + 1)).len ≡ 0
        on true (same e) = e
        on false (differ n) = absurd (step_try (sym a ∙ step_at task x.next _ _ ((s.stands task small).active untrapped_now ∙ stands_sfu task queues n)))

    -- between a try and its step the attempt is a step
    between_step : Between task x.kinds x.next queues → attempt_of task x ≡ Step
    unfolding standing attempt_as
    between_step b = step_at task x.next _ _ b.here

    has_now : has_process now.table.users task ≡ had_in task x.lens
    unfolding has_process had_in
    has_now = ap (λ (n : ℕ). not (eqb n 0)) (ap (λ (q : Queue). q.len) empty_own ∙ len_in x.pts x.heads x.lens (2 * task) (omega (arith, small)))

    -- performed and settled
    module _ (pt p r : ℕ) (k : Course) (ps : List ℕ) (y : Lines) (n : Cells) (wide : numbers ≤ length x.kinds)
        (settles : Settles task pt k p r (lines x.next x.pts x.heads x.lens x.kinds x.stored ps x.flag x.free x.count) y)
        (attempted : Attempted (attempt_of task x) task (result_by task k p (lines x.next x.pts x.heads x.lens x.kinds x.stored ps x.flag x.free x.count)).ending rows spans x m y n) where
      abbrev mid : Lines
      mid = lines x.next x.pts x.heads x.lens x.kinds x.stored ps x.flag x.free x.count

      abbrev ending : Ending
      ending = (result_by task k p mid).ending

      abbrev had : Bool
      had = had_in task x.lens

      acts : ending ≢ Idle
      acts = not_idle task k p mid

      attempt_by_lem : (a : Attempt) → attempt_of task x ≡ a → attempt_by decide a task now ≡ record { state = state_from rows y n; ending = ending }
      attempt_by_lem a e = ap (λ (b : Attempt). attempt_by decide b task now) (sym e) ∙ attempted.attempt

      -- the item is over
      pub attempts_on : goes_on (attempt_of task x) (had_in task x.lens) (result_by task k p mid).ending ≡ false
          → Running l (i + 1) s₀ rows spans y n (added task (attempt_counts (attempt_of task x) (had_in task x.lens) (result_by task k p mid).ending) c)
      unfolding goes_on attempt_counts
      attempts_on f = record {
        tried = false;
        runs = on (attempt_of task x) refl going.tried going.runs going.stands f;
        numbers = attempted.numbers;
        stands = before (stands_kept task pt p r k mid y small wide settles untrapped_now f others_now);
      }
        where
          on : (a : Attempt) → attempt_of task x ≡ a → (b : Bool) → Runs l i b s₀ now c → Standing l i x.kinds x.next queues b → goes_on a had ending ≡ false
              → Runs l (i + 1) false s₀ (state_from rows y n) (added task (attempt_counts a had ending) c)
          on Step e b u s g = steps_on l i s₀ now (state_from rows y n) c ending here b (step_alone b s e) (attempt_by_lem Step e) u
          on Try e true u (between j b) g = absurd (step_try (sym (between_step b) ∙ e))
          on Try e false u s g =
              let q : cond (step_follows had ending) (counts 0 0 0 0 1) (counts_of ending 1) ≡ counts_of ending 1 = ap (λ (b : Bool). cond b (counts 0 0 0 0 1) (counts_of ending 1)) g in
              subst (λ (z : Counts). Runs l (i + 1) false s₀ (state_from rows y n) (added task z c)) (sym q)
              (try_ends l i s₀ now (state_from rows y n) c ending here acts (attempt_by_lem Try e) had has_now u g)

      -- its step follows
      had_so : (b : Bool) (e : Ending) → step_follows b e ≡ true → e ≢ Idle → b ≡ true
      unfolding step_follows
      had_so b Executed g n = g
      had_so b Waved g n = g
      had_so b (Trapped q w) g n = absurd (true≢false (sym g))
      had_so b Idle g n = absurd (n refl)

      try_follows : goes_on (attempt_of task x) had ending ≡ true → (attempt_of task x ≡ Try) × (step_follows had ending ≡ true)
      unfolding goes_on
      try_follows f = on (attempt_of task x) f
        where
          on : (a : Attempt) → goes_on a had ending ≡ true → (a ≡ Try) × (step_follows had ending ≡ true)
          on Step g = absurd (true≢false (sym g))
          on Try g = (refl, g)

      pub follows_stands : goes_on (attempt_of task x) (had_in task x.lens) (result_by task k p mid).ending ≡ true → Standing l i y.kinds y.next (queues_of y) true
      follows_stands f =
          let e = try_follows f in
          let h = had_so had ending e.1 acts in
          between here (between_kept task pt p r k mid y small wide settles untrapped_now e.0 h (ap (λ (b : Bool). step_follows b ending) (sym h) ∙ e.1) others_now)

      pub follows_on : goes_on (attempt_of task x) (had_in task x.lens) (result_by task k p mid).ending ≡ true
          → Running l i s₀ rows spans y n (added task (attempt_counts (attempt_of task x) (had_in task x.lens) (result_by task k p mid).ending) c)
      unfolding attempt_counts
      follows_on f =
          let e = try_follows f in
          record { tried = true; runs = on (attempt_of task x) refl e.0 going.tried going.runs going.stands; numbers = attempted.numbers; stands = follows_stands f }
        where
          on : (a : Attempt) → attempt_of task x ≡ a → a ≡ Try → (b : Bool) → Runs l i b s₀ now c → Standing l i x.kinds x.next queues b
              → Runs l i true s₀ (state_from rows y n) (added task (attempt_counts a had ending) c)
          on Step e z b u s = absurd (step_try z)
          on Try e z true u (between j b) = absurd (step_try (sym (between_step b) ∙ e))
          on Try e z false u s =
              let g = (try_follows f).1 in
              let q : cond (step_follows had ending) (counts 0 0 0 0 1) (counts_of ending 1) ≡ counts 0 0 0 0 1 = ap (λ (b : Bool). cond b (counts 0 0 0 0 1) (counts_of ending 1)) g in
              subst (λ (z : Counts). Runs l i true s₀ (state_from rows y n) (added task z c)) (sym q)
              (tries_on l i s₀ now (state_from rows y n) c ending here acts (attempt_by_lem Try e) had has_now u g)
