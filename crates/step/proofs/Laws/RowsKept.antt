-- A row that takes the place of another with the same number, bases and limits, and has a sound trap record: the rows stay sound.
use Rattle.std.specs.Prelude.{ℕ, ◌≡◌, refl, Bool, true, ◌&&◌, ◌||◌, List}
use Rattle.std.proofs.Math.Path.{ap}
use Rattle.std.proofs.Common.{◌∙◌}
use Rattle.std.proofs.Math.Dec.{eqb}
use Rattle.word.specs.Fields.{psw_sound}
use Rattle.window.specs.declared.Row.{Row}
use Rattle.word.proofs.Laws.Conjunctions.{also, both, and_map}
use Rattle.window.specs.Windows.{register_window, program_window, data_word_window}
use Rattle.operation.specs.declared.Trap.{Trap}
use Rattle.operation.specs.declared.Trap.TheVariants.{CreateFault, IllegalInstruction, ProtectionViolation, PrivilegedInstruction, SupervisorCall, SimulatedInstruction, DataException}
use Rattle.operation.specs.Environment.{kind_of}
use Rattle.step.specs.Act.{trapped_row}
use Rattle.step.specs.Soundness.{member, task_sound, kinds, kind_sound, record_sound, bases_sound, row_sound, rows_sound, has_row, row_ends_in, windows_sound}
use Rattle.step.proofs.Laws.Rows.{Put, first, later}
use Rattle.step.proofs.Laws.Act.{fixed}

-- the trap record of a row
unfoldable pub recorded : Row → Bool
recorded r = kind_sound r.kind && record_sound r.kind r.psw

pub record Replaces (r x : Row) : Type 0 where
  pub keeps : fixed x ≡ fixed r
  pub trap : recorded r ≡ true → recorded x ≡ true

pub replaces_self : (r : Row) → Replaces r r
replaces_self r = record { keeps = refl; trap = λ e. e }

trap_sound : (k : Trap) (p : ℕ) → psw_sound p ≡ true → kind_sound (kind_of k) && record_sound (kind_of k) p ≡ true
unfolding kind_sound record_sound member kinds kind_of
trap_sound CreateFault p e = e
trap_sound IllegalInstruction p e = e
trap_sound ProtectionViolation p e = e
trap_sound PrivilegedInstruction p e = e
trap_sound SupervisorCall p e = e
trap_sound SimulatedInstruction p e = e
trap_sound DataException p e = e

pub replaces_trapped : (r : Row) (k : Trap) (p : ℕ) → psw_sound p ≡ true → Replaces r (trapped_row r k p)
unfolding trapped_row recorded
replaces_trapped r k p e = record { keeps = refl; trap = λ _. trap_sound k p e }

module _ (r x : Row) (replaces : Replaces r x) where
  pub same_task : x.task ≡ r.task
  same_task = ap (λ (y : Row). y.task) replaces.keeps

  same_bases : bases_sound x ≡ bases_sound r
  unfolding bases_sound
  same_bases = ap (λ (y : Row). bases_sound y) replaces.keeps

  row_sound_lem : (before : ℕ) → row_sound before r ≡ true → row_sound before x ≡ true
  unfolding row_sound recorded
  row_sound_lem before e =
      let u = both (λ y. y) (both (λ y. y) replaces.trap) e in
      also (ap (task_sound before) same_task ∙ u.0) (also (same_bases ∙ u.1.0) u.1.1)

  pub rows_put : {rs qs : List Row} → Put r x rs qs → (before : ℕ) → rows_sound before rs ≡ true → rows_sound before qs ≡ true
  unfolding rows_sound
  rows_put (first {rs}) before e = and_map (row_sound_lem before) (λ k. ap (λ (t : ℕ). rows_sound t rs) same_task ∙ k) e
  rows_put (later {y} p) before e = and_map {a = row_sound before y} (λ k. k) (λ k. rows_put p y.task k) e

  pub has_row_put : {rs qs : List Row} → Put r x rs qs → (t : ℕ) → has_row t qs ≡ has_row t rs
  unfolding has_row
  has_row_put (first {rs}) t = ap (λ (n : ℕ). eqb n t || has_row t rs) same_task
  has_row_put (later {y} p) t = ap (λ (b : Bool). eqb y.task t || b) (has_row_put p t)

  pub windows_put : {rs qs : List Row} → Put r x rs qs → (nr np nd : ℕ) → windows_sound nr np nd qs ≡ windows_sound nr np nd rs
  unfolding windows_sound row_ends_in register_window program_window data_word_window
  windows_put (first {rs}) nr np nd =
      ap (λ (y : Row). row_ends_in nr np nd y && windows_sound nr np nd rs) replaces.keeps
  windows_put (later {y} p) nr np nd =
      ap (λ (b : Bool). row_ends_in nr np nd y && b) (windows_put p nr np nd)
