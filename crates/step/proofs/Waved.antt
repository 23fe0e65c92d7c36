-- A waved step or try changes only the queues.
use Rattle.std.specs.Prelude.{◌≡◌, true, ℕ}
use Rattle.std.proofs.Common.{sym, ap, ◌∙◌}
use Rattle.window.specs.Memories.{stored_all, written}
use Rattle.operation.specs.declared.Wait.{Wait}
use Rattle.operation.specs.Decide.{decide}
use Rattle.step.specs.declared.Attempt.{Attempt}
use Rattle.step.specs.declared.Ending.TheVariants.{Waved}
use Rattle.step.specs.Queues.{live_counts, live_total}
use Rattle.step.specs.State.{State, put_row}
use Rattle.step.specs.Act.{Stepped, register_writes, data_writes, waved_queues, change_of, act}
use Rattle.step.specs.Step.{attempt_by}
use Rattle.step.specs.Soundness.{sound}
use Rattle.step.proofs.Laws.Rows.{find_task, put_same}
use Rattle.step.proofs.Laws.Sound.{sound_parts, tidy_of}
use Rattle.step.proofs.Laws.Counted.{live_counted}
use Rattle.step.proofs.Laws.Waved.{waved_acts, waved_counts, waved_total}

-- the states differ only in the queues, where the process went that waits for w: in a step for a data word to the SFU queue, else to the tail of
-- its queue
pub record OnlyRequeued (a : Attempt) (w : Wait) (t : ℕ) (s s' : State) : Type 0 where
  pub rows : s'.rows ≡ s.rows
  pub psws : s'.table.users.psw ≡ s.table.users.psw
  pub queues : s'.table.users.queues ≡ waved_queues a w s.table.users.queues t
  pub flag : s'.table.users.flag ≡ s.table.users.flag
  pub constants : s'.constants ≡ s.constants
  pub registers : s'.registers ≡ s.registers
  pub program : s'.program ≡ s.program
  pub data_words : s'.data_words ≡ s.data_words

pub waved_only : (a : Attempt) (t : ℕ) (s : State) → (attempt_by decide a t s).ending ≡ Waved → (w : Wait) × OnlyRequeued a w t s (attempt_by decide a t s).state
unfolding act change_of register_writes data_writes written stored_all
waved_only a t s e =
    let u = waved_acts decide a t s e in
    let task : u.row.task ≡ t = find_task t s.rows u.row u.found in (
      u.wait,
      record {
        rows = ap (λ (x : Stepped). x.state.rows) u.acts ∙ ap (λ (k : ℕ). put_row k u.row s.rows) task ∙ put_same t s.rows u.row u.found;
        psws = ap (λ (x : Stepped). x.state.table.users.psw) u.acts;
        queues = ap (λ (x : Stepped). x.state.table.users.queues) u.acts ∙ ap (waved_queues a u.wait s.table.users.queues) task;
        flag = ap (λ (x : Stepped). x.state.table.users.flag) u.acts;
        constants = ap (λ (x : Stepped). x.state.constants) u.acts;
        registers = ap (λ (x : Stepped). x.state.registers) u.acts;
        program = ap (λ (x : Stepped). x.state.program) u.acts;
        data_words = ap (λ (x : Stepped). x.state.data_words) u.acts;
      },
    )

-- as many processes live of each task, and in all
pub waved_live : (a : Attempt) (t : ℕ) (s : State) → sound s ≡ true → (attempt_by decide a t s).ending ≡ Waved
    → ((attempt_by decide a t s).state.table.users.live ≡ s.table.users.live) × ((attempt_by decide a t s).state.table.users.count ≡ s.table.users.count)
unfolding act change_of
waved_live a t s h e =
    let u = waved_acts decide a t s e in
    let task : u.row.task ≡ t = find_task t s.rows u.row u.found in
    let p = (sound_parts s h).table in
    let c = live_counted s.table.users p.counted in
    let tidy = tidy_of s.rows s.table.users p in (
      ap (λ (x : Stepped). x.state.table.users.live) u.acts
          ∙ ap (λ (k : ℕ). live_counts (waved_queues a u.wait s.table.users.queues k)) task ∙ waved_counts tidy t a u.wait u.nonempty ∙ sym c.0,
      ap (λ (x : Stepped). x.state.table.users.count) u.acts
          ∙ ap (λ (k : ℕ). live_total (waved_queues a u.wait s.table.users.queues k)) task ∙ waved_total tidy t a u.wait u.nonempty ∙ sym c.1,
    )
