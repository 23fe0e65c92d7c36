-- Two whole runs over schedules that are one list once the items of other tasks are struck out: they agree on these tasks, and any note that takes
-- down nothing of other tasks' items is the same of both. For any instruction set.
use Rattle.std.specs.Prelude.{◌≡◌, Bool, ℕ}
use Rattle.std.proofs.Math.Path.{refl, sym, ap, subst}
use Rattle.std.proofs.Common.{◌∙◌}
use Rattle.std.proofs.Math.Bool.{true, false, cond}
use mathlib.Core.List.{List, [], ◌∷◌, nil≢cons, cons≢nil, head-eq_of_cons-eq, tail-eq_of_cons-eq}
use Rattle.operation.specs.Environment.{Environment}
use Rattle.operation.specs.declared.Decision.{Decision}
use Rattle.step.specs.State.{State}
use Rattle.step.specs.Step.{Account, account_of, item_by}
use Rattle.step.proofs.Laws.Act.{Inv}
use Rattle.step.proofs.Laws.Item.{item_flag, item_inv, item_apart, item_outside_set, item_inside, items_account}
use Rattle.step.proofs.Laws.Agreement.{Agree, Apart, agree_refl, agree_sym, agree_trans}
use Rattle.run.specs.Run.{run_by}
use Rattle.run.proofs.Laws.Run.{after, after_flag}

-- the items of the tasks of A
module _ (A : ℕ → Bool) where
  unfoldable pub only : List ℕ → List ℕ
  only [] = []
  only (t ∷ ts) = cond (A t) (t ∷ only ts) (only ts)

  pub only_nil : only [] ≡ []
  unfolding only
  only_nil = refl

  pub only_in : (t : ℕ) (ts : List ℕ) → A t ≡ true → only (t ∷ ts) ≡ t ∷ only ts
  unfolding only
  only_in t ts m = ap (λ (b : Bool). cond b (t ∷ only ts) (only ts)) m

  pub only_out : (t : ℕ) (ts : List ℕ) → A t ≡ false → only (t ∷ ts) ≡ only ts
  unfolding only
  only_out t ts m = ap (λ (b : Bool). cond b (t ∷ only ts) (only ts)) m

module _ (instructions : Environment → Decision) (A : ℕ → Bool) where
  -- a state, and a schedule that leaves the flag down
  pub record Ready (ts : List ℕ) (s : State) : Type 0 where
    pub inv : Inv s
    pub apart : Apart A s
    pub down : (after instructions ts s).table.users.flag ≡ 0

  down_first : (t : ℕ) (ts : List ℕ) (s : State) → Ready (t ∷ ts) s → (item_by instructions t s).state.table.users.flag ≡ 0
  unfolding after
  down_first t ts s r = after_flag instructions ts (item_by instructions t s).state r.down

  ready_next : (t : ℕ) (ts : List ℕ) (s : State) → Ready (t ∷ ts) s → Ready ts (item_by instructions t s).state
  unfolding after
  ready_next t ts s r = record {
    inv = item_inv instructions t s r.inv (down_first t ts s r);
    apart = item_apart instructions A t s r.apart;
    down = r.down;
  }

  outside : (t : ℕ) (ts : List ℕ) (s : State) → A t ≡ false → Ready (t ∷ ts) s → Agree A s (item_by instructions t s).state
  outside t ts s out r = item_outside_set instructions A t s out r.inv r.apart (down_first t ts s r)

  both_down : (t : ℕ) (ts us : List ℕ) (s s' : State) → Ready (t ∷ ts) s → Ready (t ∷ us) s' → s.table.users.flag ≡ s'.table.users.flag
  both_down t ts us s s' r r' = item_flag instructions t s (down_first t ts s r) ∙ sym (item_flag instructions t s' (down_first t us s' r'))

  inside : (t : ℕ) (ts us : List ℕ) (s s' : State) → A t ≡ true → Agree A s s' → Ready (t ∷ ts) s → Ready (t ∷ us) s'
      → Agree A (item_by instructions t s).state (item_by instructions t s').state
  inside t ts us s s' m g r r' =
      item_inside instructions A s s' g (both_down t ts us s s' r r') t m r.inv r'.inv (down_first t ts s r) (down_first t us s' r')

  accounts_same : (t : ℕ) (ts us : List ℕ) (s s' : State) → A t ≡ true → Agree A s s' → Ready (t ∷ ts) s → Ready (t ∷ us) s'
      → account_of (item_by instructions t s) ≡ account_of (item_by instructions t s')
  accounts_same t ts us s s' m g r r' =
      items_account instructions A s s' g (both_down t ts us s s' r r') t m r.inv r'.inv (down_first t ts s r) (down_first t us s' r')

module _ {N : Type 0} (instructions : Environment → Decision) (A : ℕ → Bool) (note : ℕ → Account → N → N)
    (blind : (u : ℕ) (e : Account) (n : N) → A u ≡ false → note u e n ≡ n) where
  abbrev notes : List ℕ → State → N → N
  notes ts s n = (run_by instructions note ts s n).notes

  -- an item of a task outside A is not noted
  notes_outside : (t : ℕ) (ts : List ℕ) (s : State) (n : N) → A t ≡ false → notes (t ∷ ts) s n ≡ notes ts (item_by instructions t s).state n
  unfolding run_by
  notes_outside t ts s n m = ap (notes ts (item_by instructions t s).state) (blind t (account_of (item_by instructions t s)) n m)

  -- the two runs end alike
  pub record Alike (ts us : List ℕ) (s s' : State) (n : N) : Type 0 where
    pub agree : Agree A (after instructions ts s) (after instructions us s')
    pub noted : (run_by instructions note ts s n).notes ≡ (run_by instructions note us s' n).notes

  -- nothing of A in the schedule
  all_outside : (us : List ℕ) (s : State) (n : N) → only A us ≡ [] → Ready instructions A us s → Agree A s (after instructions us s) × (n ≡ notes us s n)
  unfolding after run_by
  all_outside [] s n e r = (agree_refl A s, refl)
  all_outside (u ∷ us) s n e r = go (A u) refl (λ k. all_outside us (item_by instructions u s).state n k (ready_next instructions A u us s r))
    where
      go : (b : Bool) → A u ≡ b
          → (only A us ≡ [] → Agree A (item_by instructions u s).state (after instructions us (item_by instructions u s).state) × (n ≡ notes us (item_by instructions u s).state n))
          → Agree A s (after instructions us (item_by instructions u s).state) × (n ≡ notes (u ∷ us) s n)
      go true m ih = absurd (cons≢nil (sym (only_in A u us m) ∙ e))
      go false m ih =
          let k = ih (sym (only_out A u us m) ∙ e) in (
            agree_trans A s (item_by instructions u s).state (after instructions us (item_by instructions u s).state) (outside instructions A u us s m r) k.0,
            k.1 ∙ sym (notes_outside u us s n m),
          )

  -- the schedule up to the first item of A, which is x
  record Reaches (us : List ℕ) (s : State) (x : ℕ) (xs : List ℕ) (n : N) : Type 0 where
    us₁ : List ℕ
    s₁ : State
    sees : Agree A s s₁
    ready : Ready instructions A (x ∷ us₁) s₁
    left : only A us₁ ≡ xs
    ends : after instructions us s ≡ after instructions (x ∷ us₁) s₁
    noted : notes us s n ≡ notes (x ∷ us₁) s₁ n

  reaches : (us : List ℕ) (s : State) (x : ℕ) (xs : List ℕ) (n : N) → only A us ≡ x ∷ xs → Ready instructions A us s → Reaches us s x xs n
  unfolding after
  reaches [] s x xs n e r = absurd (nil≢cons (sym (only_nil A) ∙ e))
  reaches (u ∷ us) s x xs n e r = go (A u) refl (λ k. reaches us (item_by instructions u s).state x xs n k (ready_next instructions A u us s r))
    where
      go : (b : Bool) → A u ≡ b → (only A us ≡ x ∷ xs → Reaches us (item_by instructions u s).state x xs n) → Reaches (u ∷ us) s x xs n
      go true m ih =
          let q : u ∷ only A us ≡ x ∷ xs = sym (only_in A u us m) ∙ e in
          let h : u ≡ x = head-eq_of_cons-eq q in
          record {
            us₁ = us;
            s₁ = s;
            sees = agree_refl A s;
            ready = subst (λ (y : ℕ). Ready instructions A (y ∷ us) s) h r;
            left = tail-eq_of_cons-eq q;
            ends = ap (λ (y : ℕ). after instructions us (item_by instructions y s).state) h;
            noted = ap (λ (y : ℕ). notes (y ∷ us) s n) h;
          }
      go false m ih =
          let k : Reaches us (item_by instructions u s).state x xs n = ih (sym (only_out A u us m) ∙ e) in
          record {
            us₁ = k.us₁;
            s₁ = k.s₁;
            sees = agree_trans A s (item_by instructions u s).state k.s₁ (outside instructions A u us s m r) k.sees;
            ready = k.ready;
            left = k.left;
            ends = k.ends;
            noted = notes_outside u us s n m ∙ k.noted;
          }

  pub runs_alike : (ts us : List ℕ) (s s' : State) (n : N) → only A ts ≡ only A us → Ready instructions A ts s → Ready instructions A us s' → Agree A s s' → Alike ts us s s' n
  unfolding after run_by
  runs_alike [] us s s' n e r r' g =
      let k = all_outside us s' n (sym e ∙ only_nil A) r' in
      record { agree = agree_trans A s s' (after instructions us s') g k.0; noted = k.1 }
  runs_alike (t ∷ ts) us s s' n e r r' g =
      go (A t) refl (λ us₂ s₂ n₂ k q h. runs_alike ts us₂ (item_by instructions t s).state s₂ n₂ k (ready_next instructions A t ts s r) q h)
    where
      go : (b : Bool) → A t ≡ b
          → ((us₂ : List ℕ) (s₂ : State) (n₂ : N) → only A ts ≡ only A us₂ → Ready instructions A us₂ s₂ → Agree A (item_by instructions t s).state s₂
          → Alike ts us₂ (item_by instructions t s).state s₂ n₂)
          → Alike (t ∷ ts) us s s' n
      go true m ih =
          let k : Reaches us s' t (only A ts) n = reaches us s' t (only A ts) n (sym e ∙ only_in A t ts m) r' in
          let h : Agree A s k.s₁ = agree_trans A s s' k.s₁ g k.sees in
          let a = ih k.us₁ (item_by instructions t k.s₁).state (note t (account_of (item_by instructions t s)) n) (sym k.left)
          (ready_next instructions A t k.us₁ k.s₁ k.ready) (inside instructions A t ts k.us₁ s k.s₁ m h r k.ready) in
          record {
            agree = subst (Agree A (after instructions ts (item_by instructions t s).state)) (sym k.ends) a.agree;
            noted = a.noted
                ∙ ap (λ (x : Account). notes k.us₁ (item_by instructions t k.s₁).state (note t x n)) (accounts_same instructions A t ts k.us₁ s k.s₁ m h r k.ready)
                ∙ sym k.noted;
          }
      go false m ih =
          let a = ih us s' n (sym (only_out A t ts m) ∙ e) r'
          (agree_trans A (item_by instructions t s).state s s' (agree_sym A s (item_by instructions t s).state (outside instructions A t ts s m r)) g) in
          record { agree = a.agree; noted = notes_outside t ts s n m ∙ a.noted }
