-- A step or a try of a sound state leaves a sound state.
use Rattle.std.specs.Prelude.{ℕ, ◌≡◌, refl, ◌≢◌, Bool, true, false, cond, List, [], ◌∷◌, eqb}
use Rattle.std.proofs.Common.{sym, ap, ◌∙◌, subst, None, Some}
use Rattle.window.specs.Limits.{most_constants, most_registers, most_data}
use Rattle.window.proofs.Laws.Sound.{quality_tag}
use Rattle.word.specs.Fields.{psw_sound}
use Rattle.window.specs.declared.Row.{Row}
use Rattle.window.specs.Windows.{register_window, data_word_window}
use Rattle.window.specs.Memories.{cell_in, constant_at, written}
use Rattle.window.proofs.Laws.Memories.{length_stored_all}
use Rattle.window.specs.Sound.{bits, word_sound, tag_sound, state_sound, quality_sound}
use Rattle.operand.specs.declared.Operand.TheVariants.{Register, Constant, Absent}
use Rattle.operand.specs.Access.{visible_cell}
use Rattle.operation.specs.declared.Decision.{Decision}
use Rattle.operation.specs.declared.Decision.TheVariants.{Waits, Traps, Executes}
use Rattle.operation.specs.Decide.{decide}
use Rattle.operation.proofs.Laws.SoundDecisions.{SoundEnvironment, SoundDecision, decide_sound}
use Rattle.operation.specs.Environment.{environment_of}
use Rattle.step.specs.declared.Attempt.{Attempt}
use Rattle.step.specs.State.{State, find_row, acting_queue, processes_acting, environment}
use Rattle.step.specs.Act.{Stepped, change_of, register_writes, data_writes, act}
use Rattle.step.specs.Step.{no_trap, head_decides, row_decides, attempt_by}
use Rattle.step.specs.Soundness.{every, has_row, sound}
use Rattle.step.proofs.Laws.Rows.{put_row_lem, find_task, some_inj, none_some}
use Rattle.step.proofs.Laws.Step.{idles, acts, attempts, acting_own, decided}
use Rattle.step.proofs.Laws.Sound.{SoundMemories, Sound, sound_parts, sound_whole, found_has_row, has_row_range, listed_holds}
use Rattle.step.proofs.Laws.RowsKept.{rows_put, has_row_put, windows_put}
use Rattle.step.proofs.Laws.MemoriesKept.{memory_parts, every_seen, SoundWrites, done, more, written_sound}
use Rattle.step.proofs.Laws.TableKept.{table_rows, Ready, own_sound, change_sound}
use Rattle.step.proofs.Laws.Every.{every_parts, every_get_d}

-- ---- what a step reads

zero_tag : tag_sound 0 ≡ true
unfolding tag_sound
zero_tag = refl

zero_word : word_sound 0 ≡ true
unfolding word_sound bits
zero_word = refl

zero_quality : quality_sound 0 ≡ true
unfolding quality_sound
zero_quality = refl

environment_sound : (s : State) (r : Row) (psw : ℕ) → SoundMemories s → psw_sound psw ≡ true → SoundEnvironment (environment s r psw)
unfolding environment environment_of visible_cell cell_in constant_at
environment_sound s r psw m h =
    let constants = memory_parts most_constants quality_sound s.constants m.constants in
    let registers = memory_parts most_registers tag_sound s.registers m.registers in
    let data_words = memory_parts most_data state_sound s.data_words m.data_words in
    record {
      psw = h;
      tags = λ o. elim o as (λ k. tag_sound ((environment s r psw).cell k).tag ≡ true) [
        | Register a ↦ every_seen tag_sound (register_window r) s.registers.tags a zero_tag registers.tags
        | Constant a ↦ quality_tag _ (every_get_d quality_sound s.constants.tags a zero_quality constants.tags)
        | Absent ↦ zero_tag
      ];
      words = λ o. elim o as (λ k. word_sound ((environment s r psw).cell k).word ≡ true) [
        | Register a ↦ every_seen word_sound (register_window r) s.registers.words a zero_word registers.words
        | Constant a ↦ every_get_d word_sound s.constants.words a zero_word constants.words
        | Absent ↦ zero_word
      ];
      data_words = λ a. every_seen word_sound (data_word_window r) s.data_words.words a zero_word data_words.words;
    }

-- what a task with sound PSWs decides
pub decided_sound : (s : State) (r : Row) (psws : List ℕ) (d : Decision) → SoundMemories s → every psw_sound psws ≡ true → row_decides decide s r psws ≡ Some d
    → SoundDecision s.table.users.flag d
unfolding row_decides head_decides environment environment_of
decided_sound s r psws d m h e = go (eqb r.kind no_trap) psws h e
  where
    go : (b : Bool) (psws : List ℕ) → every psw_sound psws ≡ true → cond b (head_decides decide s r psws) None ≡ Some d → SoundDecision s.table.users.flag d
    go false psws h e = absurd (none_some d e)
    go true [] h e = absurd (none_some d e)
    go true (psw ∷ psws) h e =
        subst (SoundDecision s.table.users.flag) (some_inj (decide (environment s r psw)) d e)
        (decide_sound (environment s r psw) (environment_sound s r psw m (every_parts psw_sound psw psws h).0))

-- ---- what it writes

register_writes_lem : (flag : ℕ) (d : Decision) → SoundDecision flag d → SoundWrites tag_sound (register_writes d)
unfolding register_writes
register_writes_lem flag (Waits w) h = done
register_writes_lem flag (Traps k p) h = done
register_writes_lem flag (Executes e) h = more h.first (more h.second (more h.third (more h.destination done)))

data_writes_lem : (flag : ℕ) (d : Decision) → SoundDecision flag d → SoundWrites state_sound (data_writes d)
unfolding data_writes
data_writes_lem flag (Waits w) h = done
data_writes_lem flag (Traps k p) h = done
data_writes_lem flag (Executes e) h = more h.datum done

-- ---- the state

module _ (s : State) (a : Attempt) (t : ℕ) (r : Row) (before : Sound s) (at : find_row t s.rows ≡ Some r) (nonempty : (acting_queue s.table.users a t).len ≢ 0) where
  task_t : r.task ≡ t
  task_t = find_task t s.rows r at

  ready : Ready s.rows s.table.users a t
  ready =
      let lists : has_row t s.rows ≡ true = found_has_row t s.rows r at in
      let range = has_row_range 0 t s.rows before.rows lists in
      let held = listed_holds s.rows t range.1 lists in
      record { sound = before.table; listed = held.0; waits = held.1; nonempty = nonempty }

  pub act_sound : (d : Decision) → SoundDecision s.table.users.flag d → Sound (act s a r d).state
  unfolding act written
  act_sound d h =
      let c = change_sound r (subst (Ready s.rows s.table.users a) (sym task_t) ready) d h in
      let put = put_row_lem r.task s.rows r (change_of s.table.users a r d).row (ap (λ (n : ℕ). find_row n s.rows) task_t ∙ at) in
      record {
        rows = rows_put r _ c.row put 0 before.rows;
        table = table_rows s.rows _ _ (has_row_put r _ c.row put) c.table;
        memories = record {
          constants = before.memories.constants;
          registers =
              written_sound most_registers tag_sound (register_window r) (register_writes d) s.registers
              (register_writes_lem s.table.users.flag d h) before.memories.registers;
          program = before.memories.program;
          data_words =
              written_sound most_data state_sound (data_word_window r) (data_writes d) s.data_words
              (data_writes_lem s.table.users.flag d h) before.memories.data_words;
        };
        windows = windows_put r _ c.row put _ _ _ ∙ simp length_stored_all before.windows;
      }

-- a step or a try keeps soundness
pub attempt_sound : (a : Attempt) (t : ℕ) (s : State) → sound s ≡ true → sound (attempt_by decide a t s).state ≡ true
attempt_sound a t s e =
    let p = sound_parts s e in
    elim (attempts decide a t s) [
      | idles q n ↦ ap (λ (x : Stepped). sound x.state) q ∙ e
      | acts r d f q o n k ↦
          ap (λ (x : Stepped). sound x.state) k
          ∙ sound_whole (act s a r d).state
          (act_sound s a t r p f q d
          (decided_sound s r (processes_acting s.table.users a t) d p.memories (own_sound (ready s a t r p f q))
          (ap (row_decides decide s r) (sym (acting_own a r t s.table.users.psw s.table.users.queues)) ∙ sym (ap (decided decide a s) o) ∙ n)))
    ]
