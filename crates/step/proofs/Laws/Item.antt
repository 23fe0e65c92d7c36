-- One item of a task: what every step and every try keeps, an item keeps. For any instruction set.
use Rattle.std.specs.Prelude.{◌≡◌, Bool, true, false, cond, not, ℕ, ◌≤◌, length, eqb}
use Rattle.std.proofs.Math.Path.{refl, sym, ap, ap₂}
use Rattle.std.proofs.Common.{◌∙◌, subst, subst₂, arith, Option, None, Some, slice_get}
use Rattle.window.specs.declared.Row.{Row}
use Rattle.window.specs.Windows.{inside}
use Rattle.operation.specs.Environment.{Environment}
use Rattle.operation.specs.declared.Decision.{Decision}
use Rattle.operation.specs.Decide.{decide}
use Rattle.step.specs.declared.Attempt.{Attempt}
use Rattle.step.specs.declared.Attempt.TheVariants.{Step, Try}
use Rattle.step.specs.declared.Ending.{Ending}
use Rattle.step.specs.declared.Ending.TheVariants.{Executed, Waved, Trapped, Idle}
use Rattle.step.specs.Queues.{own_number}
use Rattle.step.specs.State.{State, find_row}
use Rattle.step.specs.Owned.{Own, own_in, own}
use Rattle.step.specs.Act.{Stepped}
use Rattle.step.specs.Step.{attempt_by, has_process, step_follows, tries_of, Item, account_of, ended, after_try, item_by, item}
use Rattle.step.specs.Soundness.{live_sound, sound}
use Rattle.step.proofs.Laws.Rows.{none_some, some_inj}
use Rattle.step.proofs.Laws.Act.{fixed_at, Inv}
use Rattle.step.proofs.Laws.Step.{Part, list_in, window_in, decided, ending_in, flag_kept, attempt_flag, attempt_inv, attempt_ends, attempt_outside, fixed_attempt, outside_fixed}
use Rattle.step.proofs.Laws.Agreement.{Agree, Apart, agree_refl, agree_trans, apart_attempt, attempt_outside_set, ends_same, attempt_inside}
use Rattle.step.proofs.Laws.Lengths.{SameLengths, same_lengths, lengths_join, attempt_lengths}
use Rattle.step.proofs.Laws.LiveCounts.{attempt_live, length_processes}
use Rattle.step.proofs.Laws.SoundKept.{attempt_sound}

-- at most one try
tries_le : (e : Ending) → tries_of e ≤ 1
unfolding tries_of
tries_le Executed = omega arith
tries_le Waved = omega arith
tries_le (Trapped k p) = omega arith
tries_le Idle = omega arith

-- whether the task's queue has a process, by what the task owns
had_own : (t : ℕ) (s : State) (o : Own) → own t s ≡ Some o → has_process s.table.users t ≡ not (eqb (length o.processes) 0)
unfolding own has_process
had_own t s o = go (find_row t s.rows)
  where
    go : (x : Option Row) → own_in s.table.users t x ≡ Some o → has_process s.table.users t ≡ not (eqb (length o.processes) 0)
    go None e = absurd (none_some o e)
    go (Some r) e =
        ap (λ (n : ℕ). not (eqb n 0)) (sym (length_processes s.table.users.psw s.table.users.queues (own_number t)))
        ∙ ap (λ (y : Own). not (eqb (length y.processes) 0)) (some_inj _ o e)

module _ (instructions : Environment → Decision) where
  -- the try, and whether a step follows it
  abbrev tried : ℕ → State → Stepped
  tried t s = attempt_by instructions Try t s

  abbrev follows : ℕ → State → Bool
  follows t s = step_follows (has_process s.table.users t) (tried t s).ending

  -- the item where a step follows, and where none does
  abbrev item_in : Bool → ℕ → State → Item
  item_in b t s = cond b (ended (attempt_by instructions Step t (tried t s).state) (tries_of (tried t s).ending)) (ended (tried t s) (tries_of (tried t s).ending))

  item_is : (t : ℕ) (s : State) (b : Bool) → follows t s ≡ b → item_by instructions t s ≡ item_in b t s
  unfolding item_by after_try
  item_is t s b e = ap (λ (c : Bool). item_in c t s) e

  -- what holds in both cases
  item_by_lem : (P : Item → Type 0) (t : ℕ) (s : State) → P (item_in true t s) → P (item_in false t s) → P (item_by instructions t s)
  item_by_lem P t s h k = go (follows t s) refl
    where
      go : (b : Bool) → follows t s ≡ b → P (item_by instructions t s)
      go true e = subst P (sym (item_is t s true e)) h
      go false e = subst P (sym (item_is t s false e)) k

  pub item_tries : (t : ℕ) (s : State) → (item_by instructions t s).tries ≤ 1
  item_tries t s = item_by_lem (λ x. x.tries ≤ 1) t s (tries_le (tried t s).ending) (tries_le (tried t s).ending)

  pub item_keeps : (P : State → Type 0) (t : ℕ) → ((a : Attempt) (x : State) → P x → P (attempt_by instructions a t x).state)
      → (s : State) → P s → P (item_by instructions t s).state
  item_keeps P t keep s k = item_by_lem (λ x. P x.state) t s (keep Step (tried t s).state (keep Try s k)) (keep Try s k)

  -- the flag stays or goes up
  pub item_flag_kept : (P : ℕ → Type 0) → P 1 → (t : ℕ) (s : State) → P s.table.users.flag → P (item_by instructions t s).state.table.users.flag
  item_flag_kept P up t s k = item_keeps (λ x. P x.table.users.flag) t (λ a x. flag_kept instructions P up a t x) s k

  pub item_flag : (t : ℕ) (s : State) → (item_by instructions t s).state.table.users.flag ≡ 0 → s.table.users.flag ≡ 0
  item_flag t s = item_flag_kept (λ x. x ≡ 0 → s.table.users.flag ≡ 0) (λ e. absurd (omega arith)) t s (λ z. z)

  -- down after the item, it was down after the try
  tried_flag : (t : ℕ) (s : State) → (item_by instructions t s).state.table.users.flag ≡ 0 → (tried t s).state.table.users.flag ≡ 0
  tried_flag t s =
      item_by_lem (λ x. x.state.table.users.flag ≡ 0 → (tried t s).state.table.users.flag ≡ 0) t s (attempt_flag instructions Step t (tried t s).state) (λ z. z)

  pub item_inv : (t : ℕ) (s : State) → Inv s → (item_by instructions t s).state.table.users.flag ≡ 0 → Inv (item_by instructions t s).state
  item_inv t s inv =
      item_keeps (λ x. x.table.users.flag ≡ 0 → Inv x) t (λ a x k z. attempt_inv instructions a t x (k (attempt_flag instructions a t x z)) z) s (λ z. inv)

  pub item_live : (t : ℕ) (s : State) → live_sound s.table.users ≡ true → live_sound (item_by instructions t s).state.table.users ≡ true
  item_live t s e = item_keeps (λ x. live_sound x.table.users ≡ true) t (λ a x. attempt_live instructions a t x) s e

  pub item_lengths : (t : ℕ) (s : State) → SameLengths (item_by instructions t s).state s
  item_lengths t s = item_keeps (λ x. SameLengths x s) t (λ a x k. lengths_join (attempt_lengths instructions a t x) k) s (same_lengths s)

  -- a place outside the window of a task
  pub item_outside : (m : Part) (t : ℕ) (s : State) (i : ℕ) → ((r : Row) → find_row t s.rows ≡ Some r → inside (window_in m r) i ≡ false)
      → slice_get (list_in m (item_by instructions t s).state) i ≡ slice_get (list_in m s) i
  item_outside m t s i h =
      let k =
      item_keeps (λ x. ((r : Row) → fixed_at t x ≡ Some r → inside (window_in m r) i ≡ false) × (slice_get (list_in m x) i ≡ slice_get (list_in m s) i)) t
      (λ a x k. (λ r e. k.0 r (sym (fixed_attempt instructions a t t x) ∙ e), attempt_outside instructions m a t x i k.0 ∙ k.1)) s
      (outside_fixed m t s i h, refl) in
      k.1

  -- ---- two states that agree on a set of tasks

  pub item_apart : (A : ℕ → Bool) (t : ℕ) (s : State) → Apart A s → Apart A (item_by instructions t s).state
  item_apart A t s k = item_keeps (Apart A) t (λ a x. apart_attempt instructions A a t x) s k

  -- an item of a task outside A changes nothing that A sees
  pub item_outside_set : (A : ℕ → Bool) (u : ℕ) (s : State) → A u ≡ false → Inv s → Apart A s → (item_by instructions u s).state.table.users.flag ≡ 0
      → Agree A s (item_by instructions u s).state
  item_outside_set A u s out inv apart z =
      let k =
      item_keeps (λ x. Apart A x × (x.table.users.flag ≡ 0 → Inv x × Agree A s x)) u
      (λ a x k. (
        apart_attempt instructions A a u x k.0,
        λ z.
            let h = k.1 (attempt_flag instructions a u x z) in (
              attempt_inv instructions a u x h.0 z,
              agree_trans A s x (attempt_by instructions a u x).state h.1 (attempt_outside_set instructions A a u x out h.0 k.0 z),
            ),
      ))
      s (apart, λ z. (inv, agree_refl A s)) in
      (k.1 z).1

  -- an item of a task of A, in two states that agree on A
  module _ (A : ℕ → Bool) (s s' : State) (g : Agree A s s') (flags : s.table.users.flag ≡ s'.table.users.flag) (t : ℕ) (m : A t ≡ true) (inv : Inv s) (inv' : Inv s')
      (down : (item_by instructions t s).state.table.users.flag ≡ 0) (down' : (item_by instructions t s').state.table.users.flag ≡ 0) where
    z : (tried t s).state.table.users.flag ≡ 0
    z = tried_flag t s down

    z' : (tried t s').state.table.users.flag ≡ 0
    z' = tried_flag t s' down'

    tries_end : (tried t s).ending ≡ (tried t s').ending
    tries_end = ends_same instructions A s s' g flags Try t m inv inv' z z'

    tries_agree : Agree A (tried t s).state (tried t s').state
    tries_agree = attempt_inside instructions A s s' g flags Try t m inv inv' z z'

    -- a step follows in both or in neither
    follows_same : follows t s ≡ follows t s'
    unfolding step_follows
    follows_same = go (own t s) refl
      where
        go : (o : Option Own) → own t s ≡ o → follows t s ≡ follows t s'
        go None e =
            let i : (tried t s).ending ≡ Idle = attempt_ends instructions Try t s inv z ∙ ap (λ (x : Option Own). ending_in (decided instructions Try s x)) e in
            ap (step_follows (has_process s.table.users t)) i ∙ sym (ap (step_follows (has_process s'.table.users t)) (sym tries_end ∙ i))
        go (Some o) e = ap₂ step_follows (had_own t s o e ∙ sym (had_own t s' o (sym (g.owns t m) ∙ e))) tries_end

    step_flags : (tried t s).state.table.users.flag ≡ (tried t s').state.table.users.flag
    step_flags = z ∙ sym z'

    try_inv : Inv (tried t s).state
    try_inv = attempt_inv instructions Try t s inv z

    try_inv' : Inv (tried t s').state
    try_inv' = attempt_inv instructions Try t s' inv' z'

    pub item_inside : Agree A (item_by instructions t s).state (item_by instructions t s').state
    item_inside = go (follows t s) refl
      where
        go : (b : Bool) → follows t s ≡ b → Agree A (item_by instructions t s).state (item_by instructions t s').state
        go true e =
            let i = item_is t s true e in
            let i' = item_is t s' true (sym follows_same ∙ e) in
            subst₂ (λ (x y : Item). Agree A x.state y.state) (sym i) (sym i')
            (attempt_inside instructions A (tried t s).state (tried t s').state tries_agree step_flags Step t m try_inv try_inv'
            (ap (λ (x : Item). x.state.table.users.flag) (sym i) ∙ down) (ap (λ (x : Item). x.state.table.users.flag) (sym i') ∙ down'))
        go false e =
            let i = item_is t s false e in
            let i' = item_is t s' false (sym follows_same ∙ e) in
            subst₂ (λ (x y : Item). Agree A x.state y.state) (sym i) (sym i') tries_agree

    -- the two items end alike, with as many tries
    items_end : ((item_by instructions t s).ending ≡ (item_by instructions t s').ending) × ((item_by instructions t s).tries ≡ (item_by instructions t s').tries)
    items_end = go (follows t s) refl
      where
        go : (b : Bool) → follows t s ≡ b
            → ((item_by instructions t s).ending ≡ (item_by instructions t s').ending) × ((item_by instructions t s).tries ≡ (item_by instructions t s').tries)
        go true e =
            let i = item_is t s true e in
            let i' = item_is t s' true (sym follows_same ∙ e) in
            subst₂ (λ (x y : Item). (x.ending ≡ y.ending) × (x.tries ≡ y.tries)) (sym i) (sym i') (
              ends_same instructions A (tried t s).state (tried t s').state tries_agree step_flags Step t m try_inv try_inv'
                  (ap (λ (x : Item). x.state.table.users.flag) (sym i) ∙ down) (ap (λ (x : Item). x.state.table.users.flag) (sym i') ∙ down'),
              ap tries_of tries_end,
            )
        go false e =
            let i = item_is t s false e in
            let i' = item_is t s' false (sym follows_same ∙ e) in
            subst₂ (λ (x y : Item). (x.ending ≡ y.ending) × (x.tries ≡ y.tries)) (sym i) (sym i') (tries_end, ap tries_of tries_end)

    -- so they did the same
    pub items_account : account_of (item_by instructions t s) ≡ account_of (item_by instructions t s')
    items_account = λ i. record { ending = items_end.0 i; tries = items_end.1 i }

pub item_sound_lem : (t : ℕ) (s : State) → sound s ≡ true → sound (item t s).state ≡ true
unfolding item
item_sound_lem t s e = item_keeps decide (λ x. sound x ≡ true) t (λ a x. attempt_sound a t x) s e
