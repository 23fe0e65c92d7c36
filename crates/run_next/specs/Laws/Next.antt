-- The next attempts of the tasks: numbers put, and the motions of the queues with what stands behind them.
use Rattle.std.specs.Prelude.{Option, Some, None}
use Rattle.std.specs.Prelude.{◌≡◌, ◌≢◌, Bool, ℕ, ◌+◌, ◌-◌, ◌*◌, ◌%◌, ◌≤◌, ◌<◌, eqb, length, set, ltb}
use Rattle.std.proofs.Math.Path.{refl, sym, ap}
use Rattle.std.proofs.Common.{◌∙◌, subst, arith}
use Rattle.std.proofs.Math.Bool.{true, false, cond}
use mathlib.Core.List.{List}
use Rattle.std.proofs.Math.ListN.{get_or, length-set, get_or-eq_default}
use Rattle.std.proofs.Math.Seq.{get_or-set_same, get_or-set_other}
use Rattle.std.proofs.lemmas.List.{set-get_or}
use borrow.Author.Tests.{ne_eqb, lt-leb, lt-ltb, ltb-true, ltb-false}
use Rattle.step.specs.declared.Attempt.{Attempt}
use Rattle.step.specs.declared.Attempt.TheVariants.{Step, Try}
use Rattle.step.specs.declared.Motion.{Motion}
use Rattle.step.specs.declared.Motion.TheVariants.{Turns, Leaves, Passes, TurnsAndJoins, PassesAndJoins}
use Rattle.step.specs.declared.Queue.{Queue}
use Rattle.step.specs.Code.Parts.{moved_queues, executed_motion, created_motion, other_number}
use Rattle.step.specs.Queues.{pt_count, numbers, task_place, own_number, sfu_number, acting_number, tail_index, after_head, head_of, turned, shifted, joined}
use Rattle.step.specs.State.{no_queue, queue_in, with_queue}
use Rattle.step.specs.Act.{turned_at, left_at, joined_at, passed_to}
use Rattle.run_rings.specs.Code.Rings.{ring_count, queue_at, queues_in, Moves}
use Rattle.run_next.specs.declared.Next.{Next}
use Rattle.run_next.specs.declared.NextRole.{NextRole}
use Rattle.run_next.specs.declared.NextRole.TheVariants.{Alone, Several, Follows, Tries}
use Rattle.run_next.specs.Code.Next.{next_is, next_at, only, item_next, standing, Puts, Acting, alone, several, follows, tries, attempt_as, attempt_in, attempt_at, followed, place_after, going_motion, Goes}
use Rattle.step.proofs.Laws.Queues.{shifted_len, joined_len}
use Rattle.run_rings.specs.Laws.Rings.{moves_len, in_ring, len_in, turned_in, joined_in, length_in}

pub next_eq : (u v : ℕ) (r s : NextRole) → u ≡ v → r ≡ s → next_is u r ≡ next_is v s
next_eq u v r s p q = ap (λ (x : ℕ). next_is x r) p ∙ ap (λ (x : NextRole). next_is v x) q

pub set_puts : (l : List (Option Next)) (t : ℕ) (n : Option Next) → t < length l → Puts t n l (set l t n)
set_puts l t n h = record { mine = get_or-set_same l t n None h; others = λ u k d. get_or-set_other l t u n None d }

-- a task has a next attempt, and n is put in its place
pub put_as : (t : ℕ) (l l' : List (Option Next)) (m : Next) (n : Option Next) → next_at l t ≡ Some m → l' ≡ set l t n → Puts t n l l'
put_as t l l' m n here e = subst (λ (k : List (Option Next)). Puts t n l k) (sym e) (set_puts l t n (on (ltb t (length l)) refl))
  where
    on : (b : Bool) → ltb t (length l) ≡ b → t < length l
    on true h = ltb-true t (length l) h
    on false h = let z : None ≡ Some m = sym (get_or-eq_default l None {n = t} (ltb-false t (length l) h)) ∙ here in cc

-- ---- what stands, by the lengths of the two queues

module _ (t : ℕ) (qs : List Queue) where
  abbrev q : Queue
  q = queue_in qs (2 * t)

  abbrev s : Queue
  s = queue_in qs (2 * t + 1)

  pub stands_sfu : s.len ≢ 0 → standing false t qs ≡ next_is (head_of s) Tries
  unfolding standing item_next
  stands_sfu n = ap (λ (b : Bool). cond b (cond (eqb q.len 0) None (next_is (head_of q) (only q.len))) (next_is (head_of s) Tries)) (ne_eqb s.len 0 n)

  pub stands_none : s.len ≡ 0 → q.len ≡ 0 → standing false t qs ≡ None
  unfolding standing item_next
  stands_none e f = simp (e, f)

  pub stands_own : s.len ≡ 0 → q.len ≢ 0 → standing false t qs ≡ next_is (head_of q) (only q.len)
  unfolding standing item_next
  stands_own e n = simp (e, ne_eqb q.len 0 n)

-- ---- own and SFU queue of a task below `numbers` by number

pub own_number_lem : (t : ℕ) → t < numbers → own_number t ≡ 2 * t
unfolding own_number task_place
own_number_lem t h = let e : t % numbers ≡ t = omega (arith, h) in ap (λ (x : ℕ). 2 * x) e

pub sfu_number_lem : (t : ℕ) → t < numbers → sfu_number t ≡ 2 * t + 1
unfolding sfu_number task_place
sfu_number_lem t h = let e : t % numbers ≡ t = omega (arith, h) in ap (λ (x : ℕ). 2 * x + 1) e

-- ---- the next attempt worked out from the queues

pub puts_as : (t : ℕ) (m n : Option Next) (l l' : List (Option Next)) → n ≡ m → Puts t m l l' → Puts t n l l'
puts_as t m n l l' e p = record { mine = p.mine ∙ sym e; others = p.others }

module _ (t : ℕ) (a b c : List ℕ) (small : t < numbers) where
  own_is_lem : head_of (queue_in (queues_in a b c) (2 * t)) ≡ head_of (queue_at a b c (2 * t))
  own_is_lem = ap head_of (in_ring a b c (2 * t) (omega (arith, small)))

  sfu_is : head_of (queue_in (queues_in a b c) (2 * t + 1)) ≡ head_of (queue_at a b c (2 * t + 1))
  sfu_is = ap head_of (in_ring a b c (2 * t + 1) (omega (arith, small)))

  own_len : (queue_in (queues_in a b c) (2 * t)).len ≡ get_or c (2 * t) 0
  own_len = len_in a b c (2 * t) (omega (arith, small))

  sfu_len : (queue_in (queues_in a b c) (2 * t + 1)).len ≡ get_or c (2 * t + 1) 0
  sfu_len = len_in a b c (2 * t + 1) (omega (arith, small))

  pub is_sfu : (u : ℕ) → u ≡ head_of (queue_at a b c (2 * t + 1)) → get_or c (2 * t + 1) 0 ≢ 0 → next_is u Tries ≡ standing false t (queues_in a b c)
  is_sfu u e n = sym (stands_sfu t (queues_in a b c) (λ z. n (sym sfu_len ∙ z)) ∙ next_eq _ _ _ _ (sfu_is ∙ sym e) refl)

  pub is_none : get_or c (2 * t + 1) 0 ≡ 0 → get_or c (2 * t) 0 ≡ 0 → None ≡ standing false t (queues_in a b c)
  is_none m n = sym (stands_none t (queues_in a b c) (sfu_len ∙ m) (own_len ∙ n))

  pub is_own : (u : ℕ) (r : NextRole) → u ≡ head_of (queue_at a b c (2 * t)) → r ≡ only (get_or c (2 * t) 0) → get_or c (2 * t + 1) 0 ≡ 0 → get_or c (2 * t) 0 ≢ 0
      → next_is u r ≡ standing false t (queues_in a b c)
  is_own u r e g m n =
      sym (stands_own t (queues_in a b c) (sfu_len ∙ m) (λ z. n (sym own_len ∙ z)) ∙ next_eq _ _ _ _ (own_is_lem ∙ sym e) (ap only own_len ∙ sym g))

  -- the step that follows a try
  pub is_step : (u : ℕ) → u ≡ head_of (queue_at a b c (2 * t)) → next_is u Follows ≡ standing true t (queues_in a b c)
  unfolding standing
  is_step u e = sym (next_eq _ _ _ _ (own_is_lem ∙ sym e) refl)

-- a try that is over, by whether the task had a process of its own
pub tried_ends : (t p : ℕ) (had : Bool) (qs : List Queue) (n : Option Next) → had ≡ false → n ≡ standing false t qs → (32 + p ≡ place_after Try had p) × (n ≡ standing had t qs)
unfolding place_after
tried_ends t p had qs n e x = (ap (λ (b : Bool). place_after Try b p) (sym e), x ∙ ap (λ (b : Bool). standing b t qs) (sym e))

pub tried_goes : (t p : ℕ) (had : Bool) (qs : List Queue) (n : Option Next) → had ≡ true → n ≡ standing true t qs → (56 + p ≡ place_after Try had p) × (n ≡ standing had t qs)
unfolding place_after
tried_goes t p had qs n e x = (ap (λ (b : Bool). place_after Try b p) (sym e), x ∙ ap (λ (b : Bool). standing b t qs) (sym e))

-- ---- what the next attempts say of the queues

-- the roles are apart
pub role_of : (l : List (Option Next)) (t : ℕ) (n : Next) (u : ℕ) (r : NextRole) → next_at l t ≡ Some n → next_at l t ≡ next_is u r → n.role ≡ r
role_of l t n u r e f = let g : Some n ≡ next_is u r = sym e ∙ f in let h : n ≡ record { pt = u; role = r } = cc in ap (λ (x : Next). x.role) h

pub pt_of : (l : List (Option Next)) (t : ℕ) (n : Next) (u : ℕ) (r : NextRole) → next_at l t ≡ Some n → next_at l t ≡ next_is u r → n.pt ≡ u
pt_of l t n u r e f = let g : Some n ≡ next_is u r = sym e ∙ f in let h : n ≡ record { pt = u; role = r } = cc in ap (λ (x : Next). x.pt) h

only_several : (n : ℕ) → 2 ≤ n → only n ≡ Several
unfolding only
only_several n h = ap (λ (b : Bool). cond b Alone Several) (ne_eqb n 1 (λ e. omega (arith, e, h)))

only_alone : (n : ℕ) → n ≡ 1 → only n ≡ Alone
unfolding only
only_alone n e = ap only e

-- the numbers of the task's queue where its head steps and none follows a try
pub record Own (t : ℕ) (r : NextRole) (lens : List ℕ) : Type 0 where
  pub is : r ≡ only (get_or lens (2 * t) 0)
  pub empty : get_or lens (2 * t + 1) 0 ≡ 0
  pub some_one : get_or lens (2 * t) 0 ≢ 0

module _ (t : ℕ) (l : List (Option Next)) (n : Next) (a b c : List ℕ) (small : t < numbers) (here : next_at l t ≡ Some n) where
  ownl : (queue_in (queues_in a b c) (2 * t)).len ≡ get_or c (2 * t) 0
  ownl = len_in a b c (2 * t) (omega (arith, small))

  sful : (queue_in (queues_in a b c) (2 * t + 1)).len ≡ get_or c (2 * t + 1) 0
  sful = len_in a b c (2 * t + 1) (omega (arith, small))

  abbrev is : (u : ℕ) (r : NextRole) → next_at l t ≡ next_is u r → n.role ≡ r
  is u r e = role_of l t n u r here e

  pub acts_own : Acting t l (queues_in a b c) → n.role ≢ Tries → 1 ≤ get_or c (2 * t) 0
  acts_own (alone e p q) r = omega (arith, p, ownl)
  acts_own (several e p q) r = omega (arith, p, ownl)
  acts_own (follows e p) r = omega (arith, p, ownl)
  acts_own (tries e p) r = absurd (r (is _ _ e))

  pub acts_sfu : Acting t l (queues_in a b c) → n.role ≡ Tries → 1 ≤ get_or c (2 * t + 1) 0
  acts_sfu (alone e p q) r = let x : Alone ≡ Tries = sym (is _ _ e) ∙ r in cc
  acts_sfu (several e p q) r = let x : Several ≡ Tries = sym (is _ _ e) ∙ r in cc
  acts_sfu (follows e p) r = let x : Follows ≡ Tries = sym (is _ _ e) ∙ r in cc
  acts_sfu (tries e p) r = omega (arith, p, sful)

  pub acts_here : Acting t l (queues_in a b c) → n.role ≢ Tries → n.role ≢ Follows → Own t n.role c
  acts_here (alone e p q) r f = record { is = is _ _ e ∙ sym (only_alone _ (sym ownl ∙ p)); empty = sym sful ∙ q; some_one = λ z. omega (arith, z, p, ownl) }
  acts_here (several e p q) r f = record { is = is _ _ e ∙ sym (only_several (get_or c (2 * t) 0) (omega (arith, p, ownl))); empty = sym sful ∙ q; some_one = λ z. omega (arith, z, p, ownl) }
  acts_here (follows e p) r f = absurd (f (is _ _ e))
  acts_here (tries e p) r f = absurd (r (is _ _ e))

  -- the task's only process
  pub record Only : Type 0 where
    pub role : n.role ≡ Alone
    pub pt : n.pt ≡ head_of (queue_in (queues_in a b c) (2 * t))
    pub one : get_or c (2 * t) 0 ≡ 1
    pub is : next_at l t ≡ next_is (head_of (queue_in (queues_in a b c) (2 * t))) Alone
    pub empty : get_or c (2 * t + 1) 0 ≡ 0

  pub acts_alone : Acting t l (queues_in a b c) → n.role ≡ Alone → Only
  acts_alone (alone e p q) r = record { role = r; pt = pt_of l t n _ _ here e; one = sym ownl ∙ p; is = e; empty = sym sful ∙ q }
  acts_alone (several e p q) r = let x : Several ≡ Alone = sym (is _ _ e) ∙ r in cc
  acts_alone (follows e p) r = let x : Follows ≡ Alone = sym (is _ _ e) ∙ r in cc
  acts_alone (tries e p) r = let x : Tries ≡ Alone = sym (is _ _ e) ∙ r in cc

  -- one of several in the task's queue: the SFU queue has None
  pub record Many : Type 0 where
    pub many : 2 ≤ get_or c (2 * t) 0
    pub empty : get_or c (2 * t + 1) 0 ≡ 0

  pub acts_several : Acting t l (queues_in a b c) → n.role ≡ Several → Many
  acts_several (alone e p q) r = let x : Alone ≡ Several = sym (is _ _ e) ∙ r in cc
  acts_several (several e p q) r = record { many = omega (arith, p, ownl); empty = sym sful ∙ q }
  acts_several (follows e p) r = let x : Follows ≡ Several = sym (is _ _ e) ∙ r in cc
  acts_several (tries e p) r = let x : Tries ≡ Several = sym (is _ _ e) ∙ r in cc

-- ---- the motions by number, for a task below `numbers`

module _ (t : ℕ) (qs : List Queue) (small : t < numbers) where
  pub step_turns : moved_queues Turns Step t qs ≡ turned_at qs (2 * t)
  unfolding moved_queues acting_number
  step_turns = ap (turned_at qs) (own_number_lem t small)

  pub try_turns : moved_queues Turns Try t qs ≡ turned_at qs (2 * t + 1)
  unfolding moved_queues acting_number
  try_turns = ap (turned_at qs) (sfu_number_lem t small)

  pub step_leaves_lem : moved_queues Leaves Step t qs ≡ left_at qs (2 * t)
  unfolding moved_queues acting_number
  step_leaves_lem = ap (left_at qs) (own_number_lem t small)

  pub try_leaves : moved_queues Leaves Try t qs ≡ left_at qs (2 * t + 1)
  unfolding moved_queues acting_number
  try_leaves = ap (left_at qs) (sfu_number_lem t small)

  pub step_passes : moved_queues Passes Step t qs ≡ passed_to qs (2 * t) (2 * t + 1)
  unfolding moved_queues acting_number other_number
  step_passes = ap (λ (k : ℕ). passed_to qs k (sfu_number t)) (own_number_lem t small) ∙ ap (passed_to qs (2 * t)) (sfu_number_lem t small)

  pub try_passes : moved_queues Passes Try t qs ≡ passed_to qs (2 * t + 1) (2 * t)
  unfolding moved_queues acting_number other_number
  try_passes = ap (λ (k : ℕ). passed_to qs k (own_number t)) (sfu_number_lem t small) ∙ ap (passed_to qs (2 * t + 1)) (own_number_lem t small)

  pub step_creates : (p : ℕ) → moved_queues (TurnsAndJoins p) Step t qs ≡ joined_at (turned_at qs (2 * t)) (2 * t) p
  unfolding moved_queues acting_number
  step_creates p = ap (λ (k : ℕ). joined_at (turned_at qs k) k p) (own_number_lem t small)

  pub try_creates : (p : ℕ) → moved_queues (PassesAndJoins p) Try t qs ≡ joined_at (passed_to qs (2 * t + 1) (2 * t)) (2 * t) p
  unfolding moved_queues acting_number other_number
  try_creates p =
      ap (λ (k : ℕ). joined_at (passed_to qs k (own_number t)) (own_number t) p) (sfu_number_lem t small)
      ∙ ap (λ (k : ℕ). joined_at (passed_to qs (2 * t + 1) k) k p) (own_number_lem t small)

-- ---- a try's process that goes on or waits

pub went_waits : (t place : ℕ) (a b c a' b' c' : List ℕ) → t < numbers → place ≡ numbers → Moves (2 * t + 1) turned a b c a' b' c'
    → queues_in a' b' c' ≡ moved_queues (going_motion (eqb place numbers) Try) Try t (queues_in a b c)
unfolding going_motion
went_waits t place a b c a' b' c' h e m =
    turned_in (2 * t + 1) a b c a' b' c' (omega (arith, h)) m ∙ sym (try_turns t (queues_in a b c) h)
    ∙ ap (λ (n : ℕ). moved_queues (going_motion (eqb n numbers) Try) Try t (queues_in a b c)) (sym e)

pub went_on : (t place : ℕ) (a b c a' b' c' : List ℕ) → t < numbers → place ≢ 8 → queues_in a' b' c' ≡ passed_to (queues_in a b c) (2 * t + 1) (2 * t)
    → queues_in a' b' c' ≡ moved_queues (going_motion (eqb place numbers) Try) Try t (queues_in a b c)
unfolding going_motion executed_motion
went_on t place a b c a' b' c' h n m =
    m ∙ sym (try_passes t (queues_in a b c) h)
    ∙ ap (λ (x : Bool). moved_queues (going_motion x Try) Try t (queues_in a b c)) (sym (ne_eqb place numbers n))

-- ---- an attempt is a step or a try by its process's role

step_role : (r : NextRole) → r ≢ Tries → attempt_as r ≡ Step
unfolding attempt_as
step_role Alone n = refl
step_role Several n = refl
step_role Follows n = refl
step_role Tries n = absurd (n refl)

pub as_step : (t : ℕ) (l : List (Option Next)) (n : Next) → next_at l t ≡ Some n → n.role ≢ Tries → attempt_at t l ≡ Step
unfolding attempt_in
as_step t l n e r = ap attempt_in e ∙ step_role n.role r

pub as_try : (t : ℕ) (l : List (Option Next)) (n : Next) → next_at l t ≡ Some n → n.role ≡ Tries → attempt_at t l ≡ Try
unfolding attempt_in attempt_as
as_try t l n e r = ap attempt_in e ∙ ap attempt_as r

module _ (t place r : ℕ) (had : Bool) (m : Attempt → Motion) (a b c : List ℕ) (l : List (Option Next)) (a' b' c' : List ℕ) (l' : List (Option Next)) (n : Next) (here : next_at l t ≡ Some n) where
  -- a step: queues as its motion says, and the next attempt worked out from them
  pub ends_step : n.role ≢ Tries → r ≡ place → queues_in a' b' c' ≡ moved_queues (m Step) Step t (queues_in a b c) → l' ≡ set l t (standing false t (queues_in a' b' c'))
      → (r ≡ place_after (attempt_at t l) had place) × Goes t had m a b c l a' b' c' l'
  unfolding place_after followed
  ends_step e f q p = (
    f ∙ ap (λ (x : Attempt). place_after x had place) (sym (as_step t l n here e)),
    record {
      queues = q ∙ ap (λ (x : Attempt). moved_queues (m x) x t (queues_in a b c)) (sym (as_step t l n here e));
      puts = puts_as t (standing false t (queues_in a' b' c')) (standing (followed (attempt_at t l) had) t (queues_in a' b' c')) l l'
          (ap (λ (x : Attempt). standing (followed x had) t (queues_in a' b' c')) (as_step t l n here e)) (put_as t l l' n (standing false t (queues_in a' b' c')) here p);
    },
  )

  pub ends_try : n.role ≡ Tries → r ≡ place_after Try had place → queues_in a' b' c' ≡ moved_queues (m Try) Try t (queues_in a b c)
      → l' ≡ set l t (standing had t (queues_in a' b' c')) → (r ≡ place_after (attempt_at t l) had place) × Goes t had m a b c l a' b' c' l'
  unfolding followed
  ends_try e f q p = (
    f ∙ ap (λ (x : Attempt). place_after x had place) (sym (as_try t l n here e)),
    record {
      queues = q ∙ ap (λ (x : Attempt). moved_queues (m x) x t (queues_in a b c)) (sym (as_try t l n here e));
      puts = puts_as t (standing had t (queues_in a' b' c')) (standing (followed (attempt_at t l) had) t (queues_in a' b' c')) l l'
          (ap (λ (x : Attempt). standing (followed x had) t (queues_in a' b' c')) (as_try t l n here e)) (put_as t l l' n (standing had t (queues_in a' b' c')) here p);
    },
  )

pub step_goes : (x : Bool) (t : ℕ) (qs : List Queue) → t < numbers → moved_queues (going_motion x Step) Step t qs ≡ turned_at qs (2 * t)
unfolding going_motion executed_motion
step_goes true t qs h = step_turns t qs h
step_goes false t qs h = step_turns t qs h

-- ---- lengths and heads behind a motion

pub left_len : (k : ℕ) (a b c a' b' c' : List ℕ) → Moves k shifted a b c a' b' c' → get_or c' k 0 ≡ get_or c k 0 - 1
unfolding queue_at
left_len k a b c a' b' c' m = ap (λ (q : Queue). q.len) m.mine ∙ shifted_len (queue_at a b c k)

pub joined_len_at : (k p : ℕ) (a b c a' b' c' : List ℕ) → get_or c k 0 < pt_count → Moves k (λ q. joined q p) a b c a' b' c' → get_or c' k 0 ≡ get_or c k 0 + 1
unfolding queue_at
joined_len_at k p a b c a' b' c' h m = ap (λ (q : Queue). q.len) m.mine ∙ joined_len (queue_at a b c k) p h

at_same : (qs : List Queue) (k : ℕ) (x : Queue) → k < length qs → queue_in (with_queue qs k x) k ≡ x
unfolding queue_in with_queue
at_same qs k x h = get_or-set_same qs k x no_queue h

at_other : (qs : List Queue) (k j : ℕ) (x : Queue) → j ≢ k → queue_in (with_queue qs k x) j ≡ queue_in qs j
unfolding queue_in with_queue
at_other qs k j x n = get_or-set_other qs k j x no_queue n

length_left : (qs : List Queue) (k : ℕ) → length (left_at qs k) ≡ length qs
unfolding left_at with_queue
length_left qs k = length-set qs k (shifted (queue_in qs k))

-- the queue that a process passes to
pub passed_len : (j k : ℕ) (a b c a' b' c' : List ℕ) → j < ring_count → k < ring_count → k ≢ j → get_or c k 0 < pt_count → queues_in a' b' c' ≡ passed_to (queues_in a b c) j k
    → get_or c' k 0 ≡ get_or c k 0 + 1
unfolding passed_to joined_at left_at
passed_len j k a b c a' b' c' h i n m e =
    let qs = queues_in a b c in
    let p = head_of (queue_in qs j) in
    let o : queue_in (left_at qs j) k ≡ queue_in qs k = at_other qs j k (shifted (queue_in qs j)) n in
    sym (len_in a' b' c' k i)
    ∙ ap (λ (x : List Queue). (queue_in x k).len) e
    ∙ ap (λ (q : Queue). q.len) (at_same (left_at qs j) k (joined (queue_in (left_at qs j) k) p) (omega (arith, i, length_left qs j, length_in a b c)))
    ∙ ap (λ (q : Queue). (joined q p).len) o
    ∙ joined_len (queue_in qs k) p (omega (arith, m, len_in a b c k i))
    ∙ ap (λ (x : ℕ). x + 1) (len_in a b c k i)

-- the head stays head where a PT joins
joined_head : (q : Queue) (p : ℕ) → 1 ≤ q.len → q.len < pt_count → head_of (joined q p) ≡ head_of q
unfolding joined head_of tail_index
joined_head q p h i =
    ap (λ (b : Bool). head_of (cond b q (record { pts = set q.pts (tail_index q) p; head = q.head; len = q.len + 1 }))) (lt-leb 64 q.len i)
    ∙ get_or-set_other q.pts ((q.head % 64 + q.len % 64) % 64) (q.head % 64) p 0 (λ e. omega (arith, e, h, i))

turned_one : (q : Queue) → q.len < 2 → turned q ≡ q
unfolding turned
turned_one q h = ap (λ (b : Bool). cond b q (record { pts = set q.pts (tail_index q) (head_of q); head = after_head q; len = q.len })) (lt-ltb q.len 2 h)

-- a queue of fewer than two processes is its own turn
pub turns_none : (qs : List Queue) (k : ℕ) → (queue_in qs k).len < 2 → turned_at qs k ≡ qs
unfolding turned_at with_queue queue_in
turns_none qs k h = ap (set qs k) (turned_one (get_or qs k no_queue) h) ∙ set-get_or qs k no_queue

-- ---- the short ways

module _ (t : ℕ) (l : List (Option Next)) (n : Next) (small : t < numbers) (here : next_at l t ≡ Some n) where
  -- the head of several leaves: the next one's head, and whether it is alone
  pub left_several : (a b c a' b' c' : List ℕ) (u : ℕ) (r : NextRole) → Many t l n a b c small here → Moves (2 * t) shifted a b c a' b' c'
      → u ≡ head_of (queue_at a' b' c' (2 * t)) → r ≡ only (get_or c' (2 * t) 0) → next_is u r ≡ standing false t (queues_in a' b' c')
  left_several a b c a' b' c' u r s m e f =
      let n : get_or c' (2 * t) 0 ≡ get_or c (2 * t) 0 - 1 = left_len (2 * t) a b c a' b' c' m in
      is_own t a' b' c' small u r e f
      (moves_len (2 * t) (2 * t + 1) shifted a b c a' b' c' (λ z. omega (arith, z)) m ∙ s.empty)
      (λ z. omega (arith, z, n, s.many))

  -- a PT joins the task's only process: its head stays head
  pub joined_alone : (p : ℕ) (a b c a' b' c' : List ℕ) → Only t l n a b c small here → Moves (2 * t) (λ q. joined q p) a b c a' b' c'
      → next_is n.pt Several ≡ standing false t (queues_in a' b' c')
  unfolding queue_at
  joined_alone p a b c a' b' c' s m =
      let k : get_or c' (2 * t) 0 ≡ get_or c (2 * t) 0 + 1 = joined_len_at (2 * t) p a b c a' b' c' (omega (arith, s.one)) m in
      is_own t a' b' c' small n.pt Several
      (s.pt ∙ ap head_of (in_ring a b c (2 * t) (omega (arith, small)))
      ∙ sym (joined_head (queue_at a b c (2 * t)) p (omega (arith, s.one)) (omega (arith, s.one)))
      ∙ sym (ap head_of m.mine))
      (sym (only_several (get_or c' (2 * t) 0) (omega (arith, k, s.one))))
      (moves_len (2 * t) (2 * t + 1) (λ q. joined q p) a b c a' b' c' (λ z. omega (arith, z)) m ∙ s.empty)
      (λ z. omega (arith, z, k))

  pub joined_alone_in : (p : ℕ) (a b c a' b' c' : List ℕ) → Only t l n a b c small here → Moves (2 * t) (λ q. joined q p) a b c a' b' c'
      → queues_in a' b' c' ≡ moved_queues (created_motion Step p) Step t (queues_in a b c)
  unfolding created_motion
  joined_alone_in p a b c a' b' c' s m =
      joined_in (2 * t) p a b c a' b' c' (omega (arith, small)) m
      ∙ ap (λ (qs : List Queue). joined_at qs (2 * t) p) (sym (turns_none (queues_in a b c) (2 * t) (omega (arith, s.one, len_in a b c (2 * t) (omega (arith, small))))))
      ∙ sym (step_creates t (queues_in a b c) small p)

  -- the task's only process goes on or waits: nothing moves
  pub stays_alone : (place : ℕ) (had : Bool) (x : Bool) (a b c : List ℕ) → Only t l n a b c small here
      → (place ≡ place_after (attempt_at t l) had place) × Goes t had (going_motion x) a b c l a b c l
  stays_alone place had x a b c s =
      let k = len_in a b c (2 * t) (omega (arith, small)) in
      let o = len_in a b c (2 * t + 1) (omega (arith, small)) in
      ends_step t place place had (going_motion x) a b c l a b c l n here (λ z. let y : Alone ≡ Tries = sym s.role ∙ z in cc) refl
      (sym (turns_none (queues_in a b c) (2 * t) (omega (arith, s.one, k))) ∙ sym (step_goes x t (queues_in a b c) small))
      (sym (ap (set l t) (sym (s.is ∙ sym (stands_own t (queues_in a b c) (o ∙ s.empty) (λ z. omega (arith, z, k, s.one)) ∙ ap (λ (r : NextRole). next_is (head_of (queue_in (queues_in a b c) (2 * t))) r) (only_alone _ (k ∙ s.one))))) ∙ set-get_or l t None))
