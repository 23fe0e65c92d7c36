-- The invariant of the next attempts gives the attempt that is made, and is kept by what settles it.
use Rattle.std.specs.Prelude.{Option, None}
use Rattle.std.specs.Prelude.{◌≡◌, ◌≢◌, Bool, cond, ℕ, ◌+◌, ◌*◌, ◌≤◌, ◌<◌, eqb, leb, length, set}
use Rattle.std.proofs.Math.Path.{refl, ap}
use Rattle.std.proofs.Common.{sym, ◌∙◌, subst, true≢false, length-set, get_or-set_other}
use Rattle.std.proofs.Math.Bool.{true, false}
use mathlib.Core.List.{List}
use native.Mathlib.Omega.{arith}
use Rattle.std.proofs.Math.ListN.{get_or}
use Rattle.std.proofs.Math.Seq.{get_or-set_same}
use borrow.Author.Tests.{eqb-false, not-true}
use Rattle.run_rings.specs.Code.Rings.{ring_count}
use Rattle.run_rings.specs.Laws.Rings.{len_in, length_in}
use Rattle.word.proofs.Laws.Bools.{Eq?, same, differ, eq?}
use Rattle.operation.specs.declared.Course.{Course}
use Rattle.operation.specs.declared.Course.TheVariants as go
use Rattle.operation.specs.declared.Trap.{Trap}
use Rattle.operation.specs.declared.Trap.TheVariants as trap
use Rattle.operation.specs.Environment.{kind_of}
use Rattle.step.specs.declared.Ending.{Ending}
use Rattle.step.specs.declared.Ending.TheVariants.{Executed, Waved, Trapped, Idle}
use Rattle.step.specs.Queues.{numbers, below_total}
use Rattle.step.specs.Code.Performs.{course_result}
use Rattle.std.specs.Int.Count.{count_trailing_zeros}
use Rattle.run_rings.specs.Code.Records.{kinds_after}
use Rattle.run_next.specs.Code.Settled.{Lines, queues_of, attempt_of, result_by, next_by, place_of, Settles}
use Rattle.step.specs.declared.Attempt.{Attempt}
use Rattle.step.specs.declared.Attempt.TheVariants.{Step, Try}
use Rattle.step.specs.declared.Motion.{Motion}
use Rattle.step.specs.declared.Motion.TheVariants.{Stays, Turns, Leaves, Passes, TurnsAndJoins, PassesAndJoins, Joins}
use Rattle.step.specs.declared.Queue.{Queue}
use Rattle.step.specs.Queues.{own_number, sfu_number, acting_number, tail_index, head_of, turned, shifted, joined}
use Rattle.step.specs.State.{no_queue, queue_in, with_queue}
use Rattle.step.specs.Act.{turned_at, left_at, joined_at, passed_to}
use Rattle.step.specs.Step.{no_trap, step_follows}
use Rattle.step.specs.Code.Parts.{moved_queues, other_number}
use Rattle.run_next.specs.declared.Next.{Next}
use Rattle.run_next.specs.declared.NextRole.TheVariants.{Alone, Several}
use Rattle.run_next.specs.Code.Next.{then_places, next_is, next_at, only, item_next, standing, Puts, Acting, alone, several, follows, tries, had_in, followed, goes_on, place_after}
use Rattle.run_next.specs.Code.Stands.{StandsAt, Stands, Between, Laid}
use Rattle.run_next.specs.Laws.Next.{own_number_lem, sfu_number_lem, stands_sfu, stands_none, stands_own}

-- ---- the attempt that is made

module _ (kinds : List ℕ) (l : List (Option Next)) (qs : List Queue) (t : ℕ) where
  acts : next_at l t ≡ standing false t qs → next_at l t ≢ None → Acting t l qs
  unfolding only
  acts e n = on (eqb (queue_in qs (2 * t + 1)).len 0) (eq? (queue_in qs (2 * t + 1)).len 0)
    where
      one : (b : Bool) → Eq? (queue_in qs (2 * t)).len 1 b → (queue_in qs (2 * t + 1)).len ≡ 0 → (queue_in qs (2 * t)).len ≢ 0 → next_at l t ≡ next_is (head_of (queue_in qs (2 * t))) (cond b Alone Several) → Acting t l qs
      one true (same f) s m i = alone i f s
      one false (differ f) s m i = several i (omega (arith, f, m)) s

      own : (b : Bool) → Eq? (queue_in qs (2 * t)).len 0 b → (queue_in qs (2 * t + 1)).len ≡ 0 → Acting t l qs
      own true (same f) s = absurd (n (e ∙ stands_none t qs s f))
      own false (differ f) s = one (eqb (queue_in qs (2 * t)).len 1) (eq? (queue_in qs (2 * t)).len 1) s f (e ∙ stands_own t qs s f)

      on : (b : Bool) → Eq? (queue_in qs (2 * t + 1)).len 0 b → Acting t l qs
      on true (same f) = own (eqb (queue_in qs (2 * t)).len 0) (eq? (queue_in qs (2 * t)).len 0) f
      on false (differ f) = tries (e ∙ stands_sfu t qs f) (omega (arith, f))

  pub stands_acting : StandsAt kinds l qs t → next_at l t ≢ None → Acting t l qs
  stands_acting s n = on (eqb (get_or kinds t 0) no_trap) (eq? (get_or kinds t 0) no_trap)
    where
      on : (b : Bool) → Eq? (get_or kinds t 0) no_trap b → Acting t l qs
      on true (same f) = acts (s.active f) n
      on false (differ f) = absurd (n (s.idle f))

  pub between_acting : Between t kinds l qs → Acting t l qs
  unfolding standing
  between_acting b = follows b.here b.some

-- ---- the other tasks

at_other : (qs : List Queue) (k j : ℕ) (x : Queue) → j ≢ k → queue_in (with_queue qs k x) j ≡ queue_in qs j
unfolding queue_in with_queue
at_other qs k j x n = get_or-set_other qs k j x no_queue n

module _ (t j : ℕ) (own : j ≢ own_number t) (sfu : j ≢ sfu_number t) where
  not_acting : (a : Attempt) → j ≢ acting_number a t
  unfolding acting_number
  not_acting Step = own
  not_acting Try = sfu

  not_other : (a : Attempt) → j ≢ other_number a t
  unfolding other_number
  not_other Step = sfu
  not_other Try = own

  pass_keeps : (qs : List Queue) (i k : ℕ) → j ≢ i → j ≢ k → queue_in (passed_to qs i k) j ≡ queue_in qs j
  unfolding passed_to joined_at left_at
  pass_keeps qs i k m n = at_other (left_at qs i) k j (joined (queue_in (left_at qs i) k) (head_of (queue_in qs i))) n ∙ at_other qs i j (shifted (queue_in qs i)) m

  join_keeps : (qs : List Queue) (k p : ℕ) → j ≢ k → queue_in (joined_at qs k p) j ≡ queue_in qs j
  unfolding joined_at
  join_keeps qs k p n = at_other qs k j (joined (queue_in qs k) p) n

  -- no motion of task t touches a queue of another task
  pub moved_other : (m : Motion) (a : Attempt) (qs : List Queue) → queue_in (moved_queues m a t qs) j ≡ queue_in qs j
  unfolding moved_queues turned_at left_at
  moved_other Stays a qs = refl
  moved_other Turns a qs = at_other qs (acting_number a t) j (turned (queue_in qs (acting_number a t))) (not_acting a)
  moved_other Leaves a qs = at_other qs (acting_number a t) j (shifted (queue_in qs (acting_number a t))) (not_acting a)
  moved_other Passes a qs = pass_keeps qs (acting_number a t) (other_number a t) (not_acting a) (not_other a)
  moved_other (TurnsAndJoins p) a qs =
      join_keeps (turned_at qs (acting_number a t)) (own_number t) p own ∙ at_other qs (acting_number a t) j (turned (queue_in qs (acting_number a t))) (not_acting a)
  moved_other (PassesAndJoins p) a qs =
      join_keeps (passed_to qs (acting_number a t) (other_number a t)) (own_number t) p own ∙ pass_keeps qs (acting_number a t) (other_number a t) (not_acting a) (not_other a)
  moved_other (Joins p) a qs = join_keeps qs (own_number t) p own

module _ (t u : ℕ) (tl : t < numbers) (ul : u < numbers) (apart : u ≢ t) where
  -- what stands of another task
  pub standing_other : (m : Motion) (a : Attempt) (qs : List Queue) → standing false u (moved_queues m a t qs) ≡ standing false u qs
  unfolding standing
  standing_other m a qs =
      let o : own_number t ≡ 2 * t = own_number_lem t tl in
      let s : sfu_number t ≡ 2 * t + 1 = sfu_number_lem t tl in
      ap (λ (q : Queue). item_next q (queue_in (moved_queues m a t qs) (2 * u + 1))) (moved_other t (2 * u) (λ e. apart (omega (arith, e, o))) (λ e. omega (arith, e, s)) m a qs)
      ∙ ap (item_next (queue_in qs (2 * u))) (moved_other t (2 * u + 1) (λ e. omega (arith, e, o)) (λ e. apart (omega (arith, e, s))) m a qs)

  -- the invariant of another task is kept, its trap kind being the same
  pub stands_other : (m : Motion) (a : Attempt) (qs : List Queue) (kinds kinds' : List ℕ) (l l' : List (Option Next)) → get_or kinds' u 0 ≡ get_or kinds u 0 → next_at l' u ≡ next_at l u → StandsAt kinds l qs u
      → StandsAt kinds' l' (moved_queues m a t qs) u
  stands_other m a qs kinds kinds' l l' k e s = record {
    idle = λ n. e ∙ s.idle (λ z. n (k ∙ z));
    active = λ f. e ∙ s.active (sym k ∙ f) ∙ sym (standing_other m a qs);
  }

-- ---- an attempt settled

idle? : Ending → Bool
idle? Executed = false
idle? Waved = false
idle? (Trapped k p) = false
idle? Idle = true

executed_idle : Executed ≡ Idle → ⊥
unfolding idle?
executed_idle e = true≢false (sym (ap idle? e))

waved_idle : Waved ≡ Idle → ⊥
unfolding idle?
waved_idle e = true≢false (sym (ap idle? e))

trapped_idle : {k : Trap} {p : ℕ} → Trapped k p ≡ Idle → ⊥
unfolding idle?
trapped_idle e = true≢false (sym (ap idle? e))

kinds_other : (e : Ending) (t u : ℕ) (l : List ℕ) → u ≢ t → get_or (kinds_after e t l) u 0 ≡ get_or l u 0
unfolding kinds_after
kinds_other Executed t u l n = refl
kinds_other Waved t u l n = refl
kinds_other (Trapped k p) t u l n = get_or-set_other l t u (kind_of k) 0 n
kinds_other Idle t u l n = refl

kind_lt : (k : Trap) → kind_of k < no_trap
unfolding kind_of
kind_lt trap.CreateFault = omega arith
kind_lt trap.IllegalInstruction = omega arith
kind_lt trap.ProtectionViolation = omega arith
kind_lt trap.PrivilegedInstruction = omega arith
kind_lt trap.SupervisorCall = omega arith
kind_lt trap.SimulatedInstruction = omega arith
kind_lt trap.DataException = omega arith

idle_not : (a : Attempt) (f : ℕ) (b : Bool) (p : ℕ) (c : Course) → (course_result a f b p c).ending ≢ Idle
unfolding course_result
idle_not a f b p go.Continues e = executed_idle e
idle_not a f b p go.Waits e = waved_idle e
idle_not a f b p go.WaitsForData e = waved_idle e
idle_not a f b p go.Quits e = executed_idle e
idle_not a f true p go.Creates e = executed_idle e
idle_not a f false p go.Creates e = trapped_idle e
idle_not a f b p go.CreateFault e = trapped_idle e
idle_not a f b p go.IllegalInstruction e = trapped_idle e
idle_not a f b p go.ProtectionViolation e = trapped_idle e
idle_not a f b p go.PrivilegedInstruction e = trapped_idle e
idle_not a f b p go.SupervisorCall e = trapped_idle e
idle_not a f b p go.SimulatedInstruction e = trapped_idle e
idle_not a f b p go.DataException e = trapped_idle e

pub not_idle : (t : ℕ) (c : Course) (p : ℕ) (x : Lines) → (result_by t c p x).ending ≡ Idle → ⊥
unfolding result_by
not_idle t c p x e = idle_not (attempt_of t x) (count_trailing_zeros 64 x.free) (below_total x.count) p c e

executed_goes : (a : Attempt) (had : Bool) → followed a had ≡ goes_on a had Executed
unfolding followed goes_on step_follows
executed_goes Step had = refl
executed_goes Try had = refl

waved_goes : (a : Attempt) (had : Bool) → followed a had ≡ goes_on a had Waved
unfolding followed goes_on step_follows
waved_goes Step had = refl
waved_goes Try had = refl

module _ (t pt p r : ℕ) (c : Course) (x y : Lines) (tl : t < numbers) (wide : numbers ≤ length x.kinds) (settles : Settles t pt c p r x y) where
  -- of the other tasks
  pub kept_other : (u : ℕ) → u < numbers → u ≢ t → StandsAt x.kinds x.next (queues_of x) u → StandsAt y.kinds y.next (queues_of y) u
  kept_other u ul n s =
      subst (λ (qs : List Queue). StandsAt y.kinds y.next qs u) (sym settles.moved.queues)
      (stands_other t u tl ul n (result_by t c p x).motion (attempt_of t x) (queues_of x) x.kinds y.kinds x.next y.next
      (ap (λ (l : List ℕ). get_or l u 0) settles.kinds ∙ kinds_other (result_by t c p x).ending t u x.kinds n) (settles.next.others u ul n) s)

  here : (e : Ending) → (result_by t c p x).ending ≡ e → get_or x.kinds t 0 ≡ no_trap → goes_on (attempt_of t x) (had_in t x.lens) e ≡ false → StandsAt y.kinds y.next (queues_of y) t
  unfolding next_by kinds_after
  here Executed i k f = record {
    idle = λ n. absurd (n (ap (λ (l : List ℕ). get_or l t 0) (settles.kinds ∙ ap (λ (e : Ending). kinds_after e t x.kinds) i) ∙ k));
    active = λ z.
        settles.next.mine ∙ ap (λ (e : Ending). next_by t (attempt_of t x) (had_in t x.lens) e (queues_of y)) i
        ∙ ap (λ (b : Bool). standing b t (queues_of y)) (executed_goes (attempt_of t x) (had_in t x.lens) ∙ f);
  }
  here Waved i k f = record {
    idle = λ n. absurd (n (ap (λ (l : List ℕ). get_or l t 0) (settles.kinds ∙ ap (λ (e : Ending). kinds_after e t x.kinds) i) ∙ k));
    active = λ z.
        settles.next.mine ∙ ap (λ (e : Ending). next_by t (attempt_of t x) (had_in t x.lens) e (queues_of y)) i
        ∙ ap (λ (b : Bool). standing b t (queues_of y)) (waved_goes (attempt_of t x) (had_in t x.lens) ∙ f);
  }
  here (Trapped d q) i k f = trapped d q i
    where
      trapped : (d : Trap) (q : ℕ) → (result_by t c p x).ending ≡ Trapped d q → StandsAt y.kinds y.next (queues_of y) t
      trapped d q i = record {
        idle = λ n. settles.next.mine ∙ ap (λ (e : Ending). next_by t (attempt_of t x) (had_in t x.lens) e (queues_of y)) i;
        active = λ z.
            let v : get_or y.kinds t 0 ≡ kind_of d =
            ap (λ (l : List ℕ). get_or l t 0) (settles.kinds ∙ ap (λ (e : Ending). kinds_after e t x.kinds) i) ∙ get_or-set_same x.kinds t (kind_of d) 0 (omega (arith, tl, wide)) in
            absurd (omega (arith, z, v, kind_lt d));
      }
  here Idle i k f = absurd (never i)
    where
      never : (result_by t c p x).ending ≡ Idle → ⊥
      never i = not_idle t c p x i

  -- of the task itself, where no step follows
  pub kept_here : get_or x.kinds t 0 ≡ no_trap → goes_on (attempt_of t x) (had_in t x.lens) (result_by t c p x).ending ≡ false → StandsAt y.kinds y.next (queues_of y) t
  kept_here = here (result_by t c p x).ending refl

  -- a step, or a try that no step follows, keeps the invariant
  pub stands_kept : get_or x.kinds t 0 ≡ no_trap → goes_on (attempt_of t x) (had_in t x.lens) (result_by t c p x).ending ≡ false → ((u : ℕ) → u < numbers → u ≢ t → StandsAt x.kinds x.next (queues_of x) u)
      → Stands y.kinds y.next (queues_of y)
  stands_kept k f s = record { stands = λ u ul. on u ul (eqb u t) (eq? u t) }
    where
      on : (u : ℕ) → u < numbers → (b : Bool) → Eq? u t b → StandsAt y.kinds y.next (queues_of y) u
      on u ul true (same e) = subst (λ (u : ℕ). StandsAt y.kinds y.next (queues_of y) u) (sym e) (kept_here k f)
      on u ul false (differ n) = kept_other u ul n (s u ul n)

-- ---- a try that a step follows

joined_grows : (q : Queue) (p : ℕ) → q.len ≤ (joined q p).len
unfolding joined
joined_grows q p = on (leb 64 q.len)
  where
    on : (b : Bool) → q.len ≤ (cond b q (record { pts = set q.pts (tail_index q) p; head = q.head; len = q.len + 1 })).len
    on true = omega arith
    on false = omega arith

grows_at : (qs : List Queue) (k p : ℕ) → k < length qs → (queue_in qs k).len ≤ (queue_in (joined_at qs k p) k).len
unfolding joined_at queue_in with_queue
grows_at qs k p h = omega (arith, joined_grows (get_or qs k no_queue) p, ap (λ (q : Queue). q.len) (get_or-set_same qs k (joined (get_or qs k no_queue) p) no_queue h))

length_at : (qs : List Queue) (k : ℕ) (q : Queue) → length (with_queue qs k q) ≡ length qs
unfolding with_queue
length_at qs k q = length-set qs k q

-- the task's queue loses none by a try
module _ (t : ℕ) (qs : List Queue) (wide : length qs ≡ ring_count) (tl : t < numbers) where
  in_own : own_number t < length qs
  in_own = omega (arith, wide, tl, own_number_lem t tl)

  own_sfu : own_number t ≢ sfu_number t
  own_sfu e = omega (arith, e, own_number_lem t tl, sfu_number_lem t tl)

  passes : (queue_in qs (own_number t)).len ≤ (queue_in (passed_to qs (sfu_number t) (own_number t)) (own_number t)).len
  unfolding passed_to left_at
  passes =
      omega (
        arith,
        grows_at (left_at qs (sfu_number t)) (own_number t) (head_of (queue_in qs (sfu_number t))) (omega (arith, in_own, length_at qs (sfu_number t) (shifted (queue_in qs (sfu_number t))))),
        ap (λ (q : Queue). q.len) (at_other qs (sfu_number t) (own_number t) (shifted (queue_in qs (sfu_number t))) own_sfu),
      )

  length_passed : length (passed_to qs (sfu_number t) (own_number t)) ≡ length qs
  unfolding passed_to joined_at left_at
  length_passed =
      length_at (left_at qs (sfu_number t)) (own_number t) (joined (queue_in (left_at qs (sfu_number t)) (own_number t)) (head_of (queue_in qs (sfu_number t))))
      ∙ length_at qs (sfu_number t) (shifted (queue_in qs (sfu_number t)))

  pub try_keeps : (m : Motion) → (queue_in qs (own_number t)).len ≤ (queue_in (moved_queues m Try t qs) (own_number t)).len
  unfolding moved_queues acting_number other_number turned_at left_at
  try_keeps Stays = omega arith
  try_keeps Turns = omega (arith, ap (λ (q : Queue). q.len) (at_other qs (sfu_number t) (own_number t) (turned (queue_in qs (sfu_number t))) own_sfu))
  try_keeps Leaves = omega (arith, ap (λ (q : Queue). q.len) (at_other qs (sfu_number t) (own_number t) (shifted (queue_in qs (sfu_number t))) own_sfu))
  try_keeps Passes = passes
  try_keeps (TurnsAndJoins p) =
      omega (
        arith,
        grows_at (turned_at qs (sfu_number t)) (own_number t) p (omega (arith, in_own, length_at qs (sfu_number t) (turned (queue_in qs (sfu_number t))))),
        ap (λ (q : Queue). q.len) (at_other qs (sfu_number t) (own_number t) (turned (queue_in qs (sfu_number t))) own_sfu),
      )
  try_keeps (PassesAndJoins p) = omega (arith, passes, grows_at (passed_to qs (sfu_number t) (own_number t)) (own_number t) p (omega (arith, in_own, length_passed)))
  try_keeps (Joins p) = grows_at qs (own_number t) p in_own

-- ---- the place tells whether the step follows

place_try : (had : Bool) (e : Ending) → e ≢ Idle → leb then_places (place_of Try had e) ≡ step_follows had e
unfolding place_of place_after step_follows
place_try true Executed n = refl
place_try false Executed n = refl
place_try true Waved n = refl
place_try false Waved n = refl
place_try had (Trapped k p) n = refl
place_try had Idle n = absurd (n refl)

place_step : (had : Bool) (e : Ending) → leb then_places (place_of Step had e) ≡ false
unfolding place_of place_after
place_step had Executed = refl
place_step had Waved = refl
place_step had (Trapped k p) = refl
place_step had Idle = refl

pub place_goes : (a : Attempt) (had : Bool) (e : Ending) → e ≢ Idle → leb then_places (place_of a had e) ≡ goes_on a had e
unfolding goes_on
place_goes Step had e n = place_step had e
place_goes Try had e n = place_try had e n

-- a try that a step follows: what stands between them
module _ (t pt p r : ℕ) (c : Course) (x y : Lines) (tl : t < numbers) (wide : numbers ≤ length x.kinds) (settles : Settles t pt c p r x y) (k : get_or x.kinds t 0 ≡ no_trap)
    (tries : attempt_of t x ≡ Try) (had : had_in t x.lens ≡ true) where
  some_left : 1 ≤ (queue_in (queues_of y) (2 * t)).len
  unfolding had_in
  some_left =
      let qs = queues_of x in
      let o = own_number_lem t tl in
      let g : (queue_in qs (2 * t)).len ≡ get_or x.lens (2 * t) 0 = len_in x.pts x.heads x.lens (2 * t) (omega (arith, tl)) in
      let n : get_or x.lens (2 * t) 0 ≢ 0 = eqb-false (get_or x.lens (2 * t) 0) 0 (not-true (eqb (get_or x.lens (2 * t) 0) 0) had) in
      let i : queues_of y ≡ moved_queues (result_by t c p x).motion Try t qs = settles.moved.queues ∙ ap (λ (a : Attempt). moved_queues (result_by t c p x).motion a t qs) tries in
      let h : (queue_in (queues_of y) (2 * t)).len ≡ (queue_in (moved_queues (result_by t c p x).motion Try t qs) (own_number t)).len =
      ap (λ (l : List Queue). (queue_in l (2 * t)).len) i ∙ ap (λ (j : ℕ). (queue_in (moved_queues (result_by t c p x).motion Try t qs) j).len) (sym o) in
      let m : (queue_in qs (own_number t)).len ≡ (queue_in qs (2 * t)).len = ap (λ (j : ℕ). (queue_in qs j).len) o in
      omega (arith, g, n, h, m, try_keeps t qs (length_in x.pts x.heads x.lens) tl (result_by t c p x).motion)

  waits_here : (e : Ending) → (result_by t c p x).ending ≡ e → step_follows true e ≡ true
      → (next_at y.next t ≡ standing true t (queues_of y)) × (get_or y.kinds t 0 ≡ no_trap)
  unfolding next_by kinds_after followed step_follows
  waits_here Executed i f = (
    settles.next.mine ∙ ap (λ (e : Ending). next_by t (attempt_of t x) (had_in t x.lens) e (queues_of y)) i
        ∙ ap (λ (a : Attempt). standing (followed a (had_in t x.lens)) t (queues_of y)) tries ∙ ap (λ (b : Bool). standing b t (queues_of y)) had,
    ap (λ (l : List ℕ). get_or l t 0) (settles.kinds ∙ ap (λ (e : Ending). kinds_after e t x.kinds) i) ∙ k,
  )
  waits_here Waved i f = (
    settles.next.mine ∙ ap (λ (e : Ending). next_by t (attempt_of t x) (had_in t x.lens) e (queues_of y)) i
        ∙ ap (λ (a : Attempt). standing (followed a (had_in t x.lens)) t (queues_of y)) tries ∙ ap (λ (b : Bool). standing b t (queues_of y)) had,
    ap (λ (l : List ℕ). get_or l t 0) (settles.kinds ∙ ap (λ (e : Ending). kinds_after e t x.kinds) i) ∙ k,
  )
  waits_here (Trapped d q) i f = absurd (true≢false (sym f))
  waits_here Idle i f = absurd (not_idle t c p x i)

  pub between_kept : step_follows true (result_by t c p x).ending ≡ true → ((u : ℕ) → u < numbers → u ≢ t → StandsAt x.kinds x.next (queues_of x) u)
      → Between t y.kinds y.next (queues_of y)
  between_kept f s =
      let w = waits_here (result_by t c p x).ending refl f in
      record { here = w.0; active = w.1; some = some_left; stands = λ u ul n. kept_other t pt p r c x y tl wide settles u ul n (s u ul n) }

-- ---- the next attempts of all tasks laid

pub laid_idle : (n : ℕ) (kinds : List ℕ) (l : List (Option Next)) (qs : List Queue) → get_or kinds n 0 ≢ no_trap → Laid n kinds l qs → Laid (n + 1) kinds l qs
laid_idle n kinds l qs f d = record { stands = λ t h i. on t h i (eqb t n) (eq? t n); none = λ t h i. d.none t (omega (arith, h)) i }
  where
    on : (t : ℕ) → t < n + 1 → t < numbers → (b : Bool) → Eq? t n b → StandsAt kinds l qs t
    on t h i true (same e) = record { idle = λ z. d.none t (omega (arith, e)) i; active = λ z. absurd (f (ap (λ (u : ℕ). get_or kinds u 0) (sym e) ∙ z)) }
    on t h i false (differ m) = d.stands t (omega (arith, h, m)) i

pub laid_active : (n : ℕ) (kinds : List ℕ) (l l' : List (Option Next)) (qs : List Queue) → get_or kinds n 0 ≡ no_trap → Puts n (standing false n qs) l l' → Laid n kinds l qs → Laid (n + 1) kinds l' qs
laid_active n kinds l l' qs f p d = record {
  stands = λ t h i. on t h i (eqb t n) (eq? t n);
  none = λ t h i. p.others t i (λ e. omega (arith, e, h)) ∙ d.none t (omega (arith, h)) i;
}
  where
    on : (t : ℕ) → t < n + 1 → t < numbers → (b : Bool) → Eq? t n b → StandsAt kinds l' qs t
    on t h i true (same e) =
        subst (λ (t : ℕ). StandsAt kinds l' qs t) (sym e) (record { idle = λ z. absurd (z f); active = λ z. p.mine })
    on t h i false (differ m) =
        let s = d.stands t (omega (arith, h, m)) i in
        record { idle = λ z. p.others t i m ∙ s.idle z; active = λ z. p.others t i m ∙ s.active z }

pub laid_all : (n : ℕ) (kinds : List ℕ) (l : List (Option Next)) (qs : List Queue) → 8 ≤ n → Laid n kinds l qs → Stands kinds l qs
laid_all n kinds l qs h d = record { stands = λ t i. d.stands t (omega (arith, h, i)) i }
