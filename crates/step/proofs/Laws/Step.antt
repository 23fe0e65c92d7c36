-- One step or try, seen from what the task owns: the decision that it makes (none: idle), and what that does. For any instruction set.
use Rattle.std.specs.Prelude.{◌≡◌, ◌≢◌, Bool, ℕ, zero, suc, eqb}
use Rattle.std.proofs.Math.Path.{refl, sym, ap}
use Rattle.std.proofs.Common.{ap₂, ◌∙◌, subst, arith, ne_eqb, Option, None, Some, slice_get}
use Rattle.std.proofs.Math.Bool.{true, false, cond}
use mathlib.Core.List.{List, []}
use Rattle.window.specs.declared.Row.{Row}
use Rattle.window.specs.declared.Window.{Window}
use Rattle.window.specs.declared.Cell.{Cell}
use Rattle.window.specs.Windows.{inside, register_window, data_word_window}
use Rattle.window.specs.Memories.{stored_all, written, tag_of, word_of}
use Rattle.window.proofs.Laws.Memories.{hits, at_stored_all, hits_outside}
use Rattle.operation.specs.Environment.{Environment}
use Rattle.operation.specs.declared.Decision.{Decision}
use Rattle.step.specs.declared.Queue.{Queue}
use Rattle.step.specs.Queues.{acting_number, ring, list_of}
use Rattle.step.specs.declared.Attempt.{Attempt}
use Rattle.step.specs.declared.Attempt.TheVariants.{Step, Try}
use Rattle.step.specs.declared.Ending.{Ending}
use Rattle.step.specs.declared.Ending.TheVariants.{Idle}
use Rattle.step.specs.State.{State, find_row, psws_of, acting_queue, processes_at, processes_acting}
use Rattle.step.specs.Act.{Stepped, act, register_writes, data_writes}
use Rattle.step.specs.Step.{no_trap, head_decides, row_decides, acted, attempt_row, attempt_by}
use Rattle.step.proofs.Laws.Rows.{none_some, some_inj}
use Rattle.step.specs.Owned.{Own, own_of, own_in, own}
use Rattle.step.proofs.Laws.Act.{fixed, fixed_of, fixed_at, Inv, local, ending_of, own_act, act_ends, own_act_other, act_inv, fixed_act, act_flag}

-- the four lists that a step writes through a window
pub data Part : Type 0 where
  register_tags register_words data_tags data_values : Part

abbrev pub list_in : Part → State → List ℕ
list_in register_tags s = s.registers.tags
list_in register_words s = s.registers.words
list_in data_tags s = s.data_words.tags
list_in data_values s = s.data_words.words

abbrev pub window_in : Part → Row → Window
window_in register_tags r = register_window r
window_in register_words r = register_window r
window_in data_tags r = data_word_window r
window_in data_values r = data_word_window r

abbrev pub writes_in : Part → Decision → List (Option (ℕ × Cell))
writes_in register_tags d = register_writes d
writes_in register_words d = register_writes d
writes_in data_tags d = data_writes d
writes_in data_values d = data_writes d

abbrev pub taken_in : Part → Cell → ℕ
taken_in register_tags c = tag_of c
taken_in register_words c = word_of c
taken_in data_tags c = tag_of c
taken_in data_values c = word_of c

pub act_list : (m : Part) (s : State) (a : Attempt) (r : Row) (d : Decision) → list_in m (act s a r d).state ≡ stored_all (taken_in m) (window_in m r) (writes_in m d) (list_in m s)
unfolding act written
act_list register_tags s a r d = refl
act_list register_words s a r d = refl
act_list data_tags s a r d = refl
act_list data_values s a r d = refl

-- a row's windows are those of its fixed part
pub window_fixed : (m : Part) (r : Row) → window_in m (fixed r) ≡ window_in m r
unfolding register_window data_word_window
window_fixed register_tags r = refl
window_fixed register_words r = refl
window_fixed data_tags r = refl
window_fixed data_values r = refl

ring_none : (a : List ℕ) (h n : ℕ) → n ≡ 0 → ring a h n ≡ []
unfolding ring
ring_none a h zero e = refl
ring_none a h (suc n) e = absurd (omega arith)

pub none_live : (q : Queue) (psw : List ℕ) → q.len ≡ 0 → psws_of psw (list_of q) ≡ []
unfolding psws_of list_of
none_live q psw e = ap (psws_of psw) (ring_none q.pts q.head q.len e)

-- the processes of the queue whose head acts
abbrev pub acting_of : Attempt → Own → List ℕ
acting_of Step o = o.processes
acting_of Try o = o.waiting

pub acting_own : (a : Attempt) (r : Row) (t : ℕ) (psw : List ℕ) (qs : List Queue) → acting_of a (own_of r t psw qs) ≡ processes_at psw qs (acting_number a t)
unfolding acting_number
acting_own Step r t psw qs = refl
acting_own Try r t psw qs = refl

-- the share of the task that steps, and how its step ends
abbrev pub local_in : Attempt → Option Decision → Option Own → Option Own
local_in a None o = o
local_in a (Some d) None = None
local_in a (Some d) (Some o) = Some (local a d o)

abbrev pub ending_in : Option Decision → Ending
ending_in None = Idle
ending_in (Some d) = ending_of d

-- a list that a step writes, place by place
abbrev pub hits_in : Part → Option Decision → Option Row → ℕ → Option ℕ → Option ℕ
hits_in m None o a x = x
hits_in m (Some d) None a x = x
hits_in m (Some d) (Some r) a x = hits (taken_in m) (window_in m r) (writes_in m d) a x

module _ (instructions : Environment → Decision) where
  abbrev pub decided : Attempt → State → Option Own → Option Decision
  decided a s None = None
  decided a s (Some o) = row_decides instructions s o.row (acting_of a o)

  -- it is idle, or an act of the task's row
  pub data Attempts (a : Attempt) (t : ℕ) (s : State) : Type 0 where
    idles : attempt_by instructions a t s ≡ record { state = s; ending = Idle } → decided a s (own t s) ≡ None → Attempts a t s
    acts : (r : Row) (d : Decision) → find_row t s.rows ≡ Some r → (acting_queue s.table.users a t).len ≢ 0
        → own t s ≡ Some (own_of r t s.table.users.psw s.table.users.queues) → decided a s (own t s) ≡ Some d
        → attempt_by instructions a t s ≡ act s a r d → Attempts a t s

  -- a task that decides has a process
  pub deciding : (a : Attempt) (t : ℕ) (s : State) (r : Row) (d : Decision) → row_decides instructions s r (processes_acting s.table.users a t) ≡ Some d
      → (acting_queue s.table.users a t).len ≢ 0
  unfolding row_decides head_decides processes_at
  deciding a t s r d e z = go (eqb r.kind no_trap) (ap (row_decides instructions s r) (sym (none_live (acting_queue s.table.users a t) s.table.users.psw z)) ∙ e)
    where
      go : (b : Bool) → cond b (head_decides instructions s r []) None ≡ Some d → ⊥
      go true k = none_some d k
      go false k = none_some d k

  pub attempts : (a : Attempt) (t : ℕ) (s : State) → Attempts a t s
  unfolding attempt_by attempt_row acted own
  attempts a t s = go (find_row t s.rows) refl
    where
      go : (o : Option Row) → find_row t s.rows ≡ o → Attempts a t s
      go None e = idles (ap (attempt_row instructions a t s) e) (ap (λ (x : Option Row). decided a s (own_in s.table.users t x)) e)
      go (Some r) e = by (row_decides instructions s r (processes_acting s.table.users a t)) refl
        where
          same_list : row_decides instructions s r (acting_of a (own_of r t s.table.users.psw s.table.users.queues))
              ≡ row_decides instructions s r (processes_acting s.table.users a t)
          same_list = ap (row_decides instructions s r) (acting_own a r t s.table.users.psw s.table.users.queues)

          by : (x : Option Decision) → row_decides instructions s r (processes_acting s.table.users a t) ≡ x → Attempts a t s
          by None k =
              idles (ap (attempt_row instructions a t s) e ∙ ap (acted instructions s a r) k)
              (ap (λ (x : Option Row). decided a s (own_in s.table.users t x)) e ∙ same_list ∙ k)
          by (Some d) k =
              acts r d e (deciding a t s r d k) (ap (own_in s.table.users t) e)
              (ap (λ (x : Option Row). decided a s (own_in s.table.users t x)) e ∙ same_list ∙ k)
              (ap (attempt_row instructions a t s) e ∙ ap (acted instructions s a r) k)

  -- idle: the queue whose head would act is empty, the task has trapped, or it has no row
  pub idle_empty : (a : Attempt) (t : ℕ) (s : State) → (acting_queue s.table.users a t).len ≡ 0 → attempt_by instructions a t s ≡ record { state = s; ending = Idle }
  idle_empty a t s z =
      elim (attempts a t s) [
        | idles e n ↦ e
        | acts r d f q o n e ↦ absurd (q z)
      ]

  pub idle_trapped : (a : Attempt) (t : ℕ) (s : State) (r : Row) → find_row t s.rows ≡ Some r → r.kind ≢ no_trap → attempt_by instructions a t s ≡ record { state = s; ending = Idle }
  unfolding attempt_by attempt_row acted row_decides
  idle_trapped a t s r e n =
      ap (attempt_row instructions a t s) e ∙ ap (λ (b : Bool). acted instructions s a r (cond b (head_decides instructions s r (processes_acting s.table.users a t)) None)) (ne_eqb r.kind no_trap n)

  pub idle_unlisted : (a : Attempt) (t : ℕ) (s : State) → find_row t s.rows ≡ None → attempt_by instructions a t s ≡ record { state = s; ending = Idle }
  unfolding attempt_by attempt_row
  idle_unlisted a t s e = ap (attempt_row instructions a t s) e

  abbrev flag_of : Stepped → ℕ
  flag_of x = x.state.table.users.flag

  -- the flag stays or goes up
  pub flag_kept : (P : ℕ → Type 0) → P 1 → (a : Attempt) (t : ℕ) (s : State) → P s.table.users.flag → P (attempt_by instructions a t s).state.table.users.flag
  flag_kept P up a t s k =
      elim (attempts a t s) [
        | idles e n ↦ subst P (sym (ap flag_of e)) k
        | acts r d f q o n e ↦ subst P (sym (ap flag_of e)) (act_flag P up s a r d k)
      ]

  -- nothing lowers it
  pub attempt_flag : (a : Attempt) (t : ℕ) (s : State) → (attempt_by instructions a t s).state.table.users.flag ≡ 0 → s.table.users.flag ≡ 0
  attempt_flag a t s = flag_kept (λ (x : ℕ). x ≡ 0 → s.table.users.flag ≡ 0) (λ e. absurd (omega arith)) a t s (λ z. z)

  pub attempt_inv : (a : Attempt) (t : ℕ) (s : State) → Inv s → (attempt_by instructions a t s).state.table.users.flag ≡ 0
      → Inv (attempt_by instructions a t s).state
  attempt_inv a t s inv z =
      elim (attempts a t s) [
        | idles e n ↦ subst (λ (x : Stepped). Inv x.state) (sym e) inv
        | acts r d f q o n e ↦ subst (λ (x : Stepped). Inv x.state) (sym e) (act_inv s a t r f d inv q (sym (ap flag_of e) ∙ z))
      ]

  pub own_attempt : (a : Attempt) (t : ℕ) (s : State) → Inv s → (attempt_by instructions a t s).state.table.users.flag ≡ 0
      → own t (attempt_by instructions a t s).state ≡ local_in a (decided a s (own t s)) (own t s)
  own_attempt a t s inv z =
      elim (attempts a t s) [
        | idles e n ↦ ap (λ (x : Stepped). own t x.state) e ∙ ap (λ (x : Option Decision). local_in a x (own t s)) (sym n)
        | acts r d f q o n e ↦ ap (λ (x : Stepped). own t x.state) e ∙ own_act s a t r f d inv q (sym (ap flag_of e) ∙ z) ∙ sym (ap₂ (local_in a) n o)
      ]

  pub attempt_ends : (a : Attempt) (t : ℕ) (s : State) → Inv s → (attempt_by instructions a t s).state.table.users.flag ≡ 0
      → (attempt_by instructions a t s).ending ≡ ending_in (decided a s (own t s))
  attempt_ends a t s inv z =
      elim (attempts a t s) [
        | idles e n ↦ ap (λ (x : Stepped). x.ending) e ∙ ap ending_in (sym n)
        | acts r d f q o n e ↦ ap (λ (x : Stepped). x.ending) e ∙ act_ends s a t r f d inv q (sym (ap flag_of e) ∙ z) ∙ ap ending_in (sym n)
      ]

  pub own_attempt_other : (a : Attempt) (t u : ℕ) (s : State) → t ≢ u → Inv s → (attempt_by instructions a t s).state.table.users.flag ≡ 0
      → own u (attempt_by instructions a t s).state ≡ own u s
  own_attempt_other a t u s ne inv z =
      elim (attempts a t s) [
        | idles e n ↦ ap (λ (x : Stepped). own u x.state) e
        | acts r d f q o n e ↦ ap (λ (x : Stepped). own u x.state) e ∙ own_act_other s a t r f d inv q (sym (ap flag_of e) ∙ z) u ne
      ]

  pub list_attempt : (m : Part) (a : Attempt) (t : ℕ) (s : State) (i : ℕ)
      → slice_get (list_in m (attempt_by instructions a t s).state) i ≡ hits_in m (decided a s (own t s)) (fixed_at t s) i (slice_get (list_in m s) i)
  unfolding fixed_at
  list_attempt m a t s i =
      elim (attempts a t s) [
        | idles e n ↦
            ap (λ (x : Stepped). slice_get (list_in m x.state) i) e ∙ ap (λ (x : Option Decision). hits_in m x (fixed_at t s) i (slice_get (list_in m s) i)) (sym n)
        | acts r d f q o n e ↦
            ap (λ (x : Stepped). slice_get (list_in m x.state) i) e
            ∙ ap (λ (l : List ℕ). slice_get l i) (act_list m s a r d)
            ∙ at_stored_all (taken_in m) (window_in m r) (writes_in m d) (list_in m s) i
            ∙ ap (λ (w : Window). hits (taken_in m) w (writes_in m d) i (slice_get (list_in m s) i)) (sym (window_fixed m r))
            ∙ sym (ap₂ (λ (x : Option Decision) (y : Option Row). hits_in m x (fixed_of y) i (slice_get (list_in m s) i)) n f)
      ]

  -- no step changes a constant or a program word
  pub constants_attempt : (a : Attempt) (t : ℕ) (s : State) → (attempt_by instructions a t s).state.constants ≡ s.constants
  unfolding act
  constants_attempt a t s =
      elim (attempts a t s) [ idles e n ↦ ap (λ (x : Stepped). x.state.constants) e | acts r d f q o n e ↦ ap (λ (x : Stepped). x.state.constants) e ]

  pub program_attempt : (a : Attempt) (t : ℕ) (s : State) → (attempt_by instructions a t s).state.program ≡ s.program
  unfolding act
  program_attempt a t s =
      elim (attempts a t s) [ idles e n ↦ ap (λ (x : Stepped). x.state.program) e | acts r d f q o n e ↦ ap (λ (x : Stepped). x.state.program) e ]

  -- no step changes what is fixed of a row
  pub fixed_attempt : (a : Attempt) (t u : ℕ) (s : State) → fixed_at u (attempt_by instructions a t s).state ≡ fixed_at u s
  fixed_attempt a t u s =
      elim (attempts a t s) [
        | idles e n ↦ ap (λ (x : Stepped). fixed_at u x.state) e
        | acts r d f q o n e ↦ ap (λ (x : Stepped). fixed_at u x.state) e ∙ fixed_act s a t r f d u
      ]

  hits_out : (m : Part) (d : Option Decision) (o : Option Row) (a : ℕ) (x : Option ℕ) → ((r : Row) → o ≡ Some r → inside (window_in m r) a ≡ false) → hits_in m d o a x ≡ x
  hits_out m None o a x h = refl
  hits_out m (Some d) None a x h = refl
  hits_out m (Some d) (Some r) a x h = hits_outside (taken_in m) (window_in m r) (writes_in m d) a x (h r refl)

  -- a place outside the window of a task
  pub attempt_outside : (m : Part) (a : Attempt) (t : ℕ) (s : State) (i : ℕ) → ((r : Row) → fixed_at t s ≡ Some r → inside (window_in m r) i ≡ false)
      → slice_get (list_in m (attempt_by instructions a t s).state) i ≡ slice_get (list_in m s) i
  attempt_outside m a t s i h = list_attempt m a t s i ∙ hits_out m (decided a s (own t s)) (fixed_at t s) i (slice_get (list_in m s) i) h

-- outside by the row, and by its fixed part
pub outside_fixed : (m : Part) (t : ℕ) (s : State) (i : ℕ) → ((r : Row) → find_row t s.rows ≡ Some r → inside (window_in m r) i ≡ false)
    → (r : Row) → fixed_at t s ≡ Some r → inside (window_in m r) i ≡ false
unfolding fixed_at
outside_fixed m t s i h r = go (find_row t s.rows) refl
  where
    go : (o : Option Row) → find_row t s.rows ≡ o → fixed_of o ≡ Some r → inside (window_in m r) i ≡ false
    go None q e = absurd (none_some r e)
    go (Some x) q e = ap (λ (y : Row). inside (window_in m y) i) (sym (some_inj (fixed x) r e)) ∙ ap (λ (w : Window). inside w i) (window_fixed m x) ∙ h x q
