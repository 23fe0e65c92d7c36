-- Two states that agree on a set of tasks, and one step or try in each. For any instruction set.
use Rattle.std.specs.Prelude.{◌≡◌, Bool, true, false, ℕ, eqb}
use Rattle.std.proofs.Math.Path.{refl, ap}
use Rattle.std.proofs.Common.{sym, ap₂, ◌∙◌, subst, true≢false, Option, None, Some, slice_get}
use Rattle.std.proofs.Math.Bool.{cond}
use mathlib.Core.List.{List, [], ◌∷◌}
use Rattle.word.proofs.Laws.Bools.{Eq?, same, differ, eq?}
use Rattle.window.specs.declared.Row.{Row}
use Rattle.window.specs.declared.Window.{Window}
use Rattle.window.specs.Windows.{inside, register_window, program_window, data_word_window}
use Rattle.window.specs.Memories.{Memory, cell_in, constant_at}
use Rattle.window.proofs.Laws.Memories.{seen_same}
use Rattle.operand.specs.declared.Operand.{Operand}
use Rattle.operand.specs.declared.Operand.TheVariants.{Register, Constant, Absent}
use Rattle.operand.specs.Access.{visible_cell}
use Rattle.operation.specs.Environment.{Environment, environment_of}
use Rattle.operation.specs.declared.Decision.{Decision}
use Rattle.step.specs.declared.Attempt.{Attempt}
use Rattle.step.specs.State.{State, find_row, environment}
use Rattle.step.specs.Step.{no_trap, head_decides, row_decides, attempt_by}
use Rattle.step.specs.Owned.{Own, own_in, own}
use Rattle.step.proofs.Laws.Act.{fixed, fixed_of, fixed_at, Inv}
use Rattle.step.proofs.Laws.Step.{Part, register_tags, register_words, data_tags, data_values, list_in, window_in, acting_of, decided, local_in, ending_in, hits_in, list_attempt, own_attempt, attempt_ends, own_attempt_other, fixed_attempt, constants_attempt, program_attempt, attempt_outside}

-- s and s' agree on the tasks of A, place by place
pub record Agree (A : ℕ → Bool) (s s' : State) : Type 0 where
  pub owns : (t : ℕ) → A t ≡ true → own t s ≡ own t s'
  pub constants : (a : ℕ) → constant_at s.constants a ≡ constant_at s'.constants a
  pub cells : (m : Part) (t : ℕ) → A t ≡ true → (r : Row) → fixed_at t s ≡ Some r → (a : ℕ) → inside (window_in m r) a ≡ true
      → slice_get (list_in m s) a ≡ slice_get (list_in m s') a
  pub code : (t : ℕ) → A t ≡ true → (r : Row) → fixed_at t s ≡ Some r → (a : ℕ) → inside (program_window r) a ≡ true
      → slice_get s.program a ≡ slice_get s'.program a

-- no register or data window of a task of A meets that of a task outside A
pub record Apart (A : ℕ → Bool) (s : State) : Type 0 where
  pub windows : (m : Part) (t u : ℕ) → A t ≡ true → A u ≡ false → (r x : Row) → fixed_at t s ≡ Some r → fixed_at u s ≡ Some x
      → (a : ℕ) → inside (window_in m r) a ≡ true → inside (window_in m x) a ≡ false

-- the fixed part of a task's row, by what the task owns
abbrev fixed_own : Option Own → Option Row
fixed_own None = None
fixed_own (Some o) = Some (fixed o.row)

own_fixed : (t : ℕ) (s : State) → fixed_at t s ≡ fixed_own (own t s)
unfolding fixed_at own
own_fixed t s = go (find_row t s.rows)
  where
    go : (o : Option Row) → fixed_of o ≡ fixed_own (own_in s.table.users t o)
    go None = refl
    go (Some r) = refl

module _ (A : ℕ → Bool) where
  agree_fixed : (s s' : State) → Agree A s s' → (t : ℕ) → A t ≡ true → fixed_at t s ≡ fixed_at t s'
  agree_fixed s s' g t m = own_fixed t s ∙ ap fixed_own (g.owns t m) ∙ sym (own_fixed t s')

  pub agree_refl : (s : State) → Agree A s s
  agree_refl s = record { owns = λ t m. refl; constants = λ a. refl; cells = λ x t m r e a i. refl; code = λ t m r e a i. refl }

  pub agree_sym : (s s' : State) → Agree A s s' → Agree A s' s
  agree_sym s s' g = record {
    owns = λ t m. sym (g.owns t m);
    constants = λ a. sym (g.constants a);
    cells = λ x t m r e a i. sym (g.cells x t m r (agree_fixed s s' g t m ∙ e) a i);
    code = λ t m r e a i. sym (g.code t m r (agree_fixed s s' g t m ∙ e) a i);
  }

  pub agree_trans : (s s' s'' : State) → Agree A s s' → Agree A s' s'' → Agree A s s''
  agree_trans s s' s'' g h = record {
    owns = λ t m. g.owns t m ∙ h.owns t m;
    constants = λ a. g.constants a ∙ h.constants a;
    cells = λ x t m r e a i. g.cells x t m r e a i ∙ h.cells x t m r (sym (agree_fixed s s' g t m) ∙ e) a i;
    code = λ t m r e a i. g.code t m r e a i ∙ h.code t m r (sym (agree_fixed s s' g t m) ∙ e) a i;
  }

-- the cell at an operand, where the two register lists and the constants agree
visible_same : (w : Window) (m n c d : Memory)
    → ((a : ℕ) → inside w a ≡ true → slice_get m.tags a ≡ slice_get n.tags a) → ((a : ℕ) → inside w a ≡ true → slice_get m.words a ≡ slice_get n.words a)
    → ((a : ℕ) → constant_at c a ≡ constant_at d a) → (o : Operand) → visible_cell w m c o ≡ visible_cell w n d o
unfolding visible_cell cell_in
visible_same w m n c d h k e (Register a) = λ i. record { tag = seen_same w m.tags n.tags h a i; word = seen_same w m.words n.words k a i }
visible_same w m n c d h k e (Constant a) = e a
visible_same w m n c d h k e Absent = refl

module _ (instructions : Environment → Decision) where
  pub apart_attempt : (A : ℕ → Bool) (a : Attempt) (t : ℕ) (s : State) → Apart A s → Apart A (attempt_by instructions a t s).state
  apart_attempt A a t s k = record {
    windows = λ m u v i o r x e f. k.windows m u v i o r x (sym (fixed_attempt instructions a t u s) ∙ e) (sym (fixed_attempt instructions a t v s) ∙ f);
  }

  -- a step of a task outside A changes nothing that A sees
  pub attempt_outside_set : (A : ℕ → Bool) (a : Attempt) (u : ℕ) (s : State) → A u ≡ false → Inv s → Apart A s
      → (attempt_by instructions a u s).state.table.users.flag ≡ 0 → Agree A s (attempt_by instructions a u s).state
  attempt_outside_set A a u s out inv k z = record {
    owns = λ t m. sym (own_attempt_other instructions a u t s (λ e. true≢false (sym m ∙ ap A (sym e) ∙ out)) inv z);
    constants = λ i. ap (λ (m : Memory). constant_at m i) (sym (constants_attempt instructions a u s));
    cells = λ x t m r e i h. sym (attempt_outside instructions x a u s i (λ y f. k.windows x t u m out r y e f i h));
    code = λ t m r e i h. ap (λ (l : List ℕ). slice_get l i) (sym (program_attempt instructions a u s));
  }

  -- a step of a task of A, in two states that agree on A
  module _ (A : ℕ → Bool) (s s' : State) (g : Agree A s s') (flags : s.table.users.flag ≡ s'.table.users.flag) (a : Attempt) (t : ℕ) (m : A t ≡ true) where
    environment_same : (r : Row) → fixed_at t s ≡ Some (fixed r) → (p : ℕ) → environment s r p ≡ environment s' r p
    unfolding environment environment_of cell_in program_window register_window data_word_window
    environment_same r e p = λ i. record {
      row = r;
      psw = p;
      flag = flags i;
      program_word = λ a. seen_same (program_window r) s.program s'.program (g.code t m (fixed r) e) a i;
      cell = λ o.
          visible_same (register_window r) s.registers s'.registers s.constants s'.constants
          (g.cells register_tags t m (fixed r) e) (g.cells register_words t m (fixed r) e) g.constants o i;
      datum = λ a. record {
        tag = seen_same (data_word_window r) s.data_words.tags s'.data_words.tags (g.cells data_tags t m (fixed r) e) a i;
        word = seen_same (data_word_window r) s.data_words.words s'.data_words.words (g.cells data_values t m (fixed r) e) a i;
      };
    }

    head_same : (r : Row) → fixed_at t s ≡ Some (fixed r) → (ps : List ℕ) → head_decides instructions s r ps ≡ head_decides instructions s' r ps
    unfolding head_decides
    head_same r e [] = refl
    head_same r e (p ∷ ps) = ap (λ (x : Environment). Some (instructions x)) (environment_same r e p)

    decided_same : decided instructions a s (own t s) ≡ decided instructions a s' (own t s')
    unfolding row_decides
    decided_same = go (own t s) refl ∙ ap (decided instructions a s') (g.owns t m)
      where
        go : (o : Option Own) → own t s ≡ o → decided instructions a s o ≡ decided instructions a s' o
        go None e = refl
        go (Some o) e =
            ap (λ (x : Option Decision). cond (eqb o.row.kind no_trap) x None) (head_same o.row (own_fixed t s ∙ ap fixed_own e) (acting_of a o))

    -- the two end alike
    pub ends_same : Inv s → Inv s' → (attempt_by instructions a t s).state.table.users.flag ≡ 0 → (attempt_by instructions a t s').state.table.users.flag ≡ 0
        → (attempt_by instructions a t s).ending ≡ (attempt_by instructions a t s').ending
    ends_same inv inv' z z' = attempt_ends instructions a t s inv z ∙ ap ending_in decided_same ∙ sym (attempt_ends instructions a t s' inv' z')

    pub attempt_inside : Inv s → Inv s' → (attempt_by instructions a t s).state.table.users.flag ≡ 0 → (attempt_by instructions a t s').state.table.users.flag ≡ 0
        → Agree A (attempt_by instructions a t s).state (attempt_by instructions a t s').state
    attempt_inside inv inv' z z' = record {
      owns = λ u n. go u n (eqb t u) (eq? t u);
      constants = λ i.
          ap (λ (m : Memory). constant_at m i) (constants_attempt instructions a t s) ∙ g.constants i
          ∙ sym (ap (λ (m : Memory). constant_at m i) (constants_attempt instructions a t s'));
      cells = λ x u n r e i h.
          list_attempt instructions x a t s i
          ∙ (λ j. hits_in x (decided_same j) (agree_fixed A s s' g t m j) i (g.cells x u n r (sym (fixed_attempt instructions a t u s) ∙ e) i h j))
          ∙ sym (list_attempt instructions x a t s' i);
      code = λ u n r e i h.
          ap (λ (l : List ℕ). slice_get l i) (program_attempt instructions a t s)
          ∙ g.code u n r (sym (fixed_attempt instructions a t u s) ∙ e) i h
          ∙ sym (ap (λ (l : List ℕ). slice_get l i) (program_attempt instructions a t s'));
    }
      where
        go : (u : ℕ) → A u ≡ true → (b : Bool) → Eq? t u b → own u (attempt_by instructions a t s).state ≡ own u (attempt_by instructions a t s').state
        go u n true (same e) =
            subst (λ (v : ℕ). own v (attempt_by instructions a t s).state ≡ own v (attempt_by instructions a t s').state) e
            (own_attempt instructions a t s inv z ∙ ap₂ (local_in a) decided_same (g.owns t m) ∙ sym (own_attempt instructions a t s' inv' z'))
        go u n false (differ h) = own_attempt_other instructions a t u s h inv z ∙ g.owns u n ∙ sym (own_attempt_other instructions a t u s' h inv' z')
