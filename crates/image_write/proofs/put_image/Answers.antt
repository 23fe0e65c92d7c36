use Prim.Native.Nat.{ℕ, ◌+◌, ◌≤◌}
use mathlib.Core.Path.{◌≡◌, refl, ◌∙◌}
use mathlib.Core.List.{List, ◌++◌}
use native.Mathlib.Nat.{zero-add}
use lib.ListN.{length}
use Rattle.window.specs.Memories.{memory}
use Rattle.step.specs.State.{State}
use Rattle.image.specs.Image.{processes_from}
use Rattle.step_soundness.specs.Code.Held.{state_in}
use Rattle.image_bytes.specs.Code.Writing.{put_at}
use Rattle.image_write.specs.Code.Bytes.{tasks_section, processes_section, words_section, cells_section, image_bytes}
use Rattle.image_write.proofs.Going.{Going, start, room, room_all, goes, last}
use Rattle.image_write.proofs.Sections.{tasks_size, processes_size, words_size, cells_size}
use Rattle.image_write.proofs.Whole.{left₁, left₂, left₃, left₄, left₅}
use Rattle.image_write.proofs.put_image.Goals as goal

-- nothing is put yet, the tasks are, and then one section after another
module _ (s : State) (out : List ℕ) where
  none_put : length (image_bytes s) ≤ length out → Going 0 (image_bytes s) out out 0 (tasks_section s.rows ++ left₁ s)
  unfolding image_bytes
  none_put h = start 0 _ _ (rw zero-add h)

  tasks_put : {new : List ℕ} {at : ℕ} → length (image_bytes s) ≤ length out → at ≡ length (tasks_section s.rows) → new ≡ put_at 0 (tasks_section s.rows) out
      → Going 0 (image_bytes s) out new at (left₁ s)
  tasks_put h p e = goes 0 _ _ (none_put h) {xs = tasks_section s.rows} {left' = left₁ s} (record { is = refl }) (rw zero-add p) e

  part_put : {l new : List ℕ} {p at : ℕ} (xs rest : List ℕ) → Going 0 (image_bytes s) out l p (xs ++ rest) → at ≡ p + length xs → new ≡ put_at p xs l
      → Going 0 (image_bytes s) out new at rest
  part_put xs rest z e i = goes 0 _ _ z {xs = xs} {left' = rest} (record { is = refl }) e i

pub put_tasks-at-requires : goal.put_tasks-at-requires
unfolding state_in
put_tasks-at-requires c =
    let a = c.args in
    let s = state_in a.rows a.n a.table (memory a.constant_tags.now a.constant_words.now) a.register_tags.now a.register_words.now a.program.now a.data_tags.now a.data_words.now in
    let h = c.requires.counted in
    let z₀ = none_put s a.output.now c.requires.room in
    let f : 0 + length (tasks_section s.rows) ≤ length a.output.now = room 0 _ _ z₀ {xs = tasks_section s.rows} {left' = left₁ s} (record { is = refl }) in
    rw tasks_size at (rw zero-add at f)

pub put_processes-at-requires : goal.put_processes-at-requires
unfolding state_in
put_processes-at-requires c =
    let a = c.args in
    let s = state_in a.rows a.n a.table (memory a.constant_tags.now a.constant_words.now) a.register_tags.now a.register_words.now a.program.now a.data_tags.now a.data_words.now in
    let h = c.requires.counted in
    let z₁ = tasks_put s a.output.now c.requires.room c.put_tasks-at.ensures.value c.put_tasks-at.ensures.output_after in
    let t = a.table.users in
    let f = room 0 _ _ z₁ {xs = processes_section t.flag (processes_from t.psw 0 t.queues)} {left' = left₂ s} (record { is = refl }) in
    (h.1.0, rw (processes_size t.psw t.flag t.queues t.count h.1.0) at f)

pub put_cells-at-requires : goal.put_cells-at-requires
unfolding state_in
put_cells-at-requires c =
    let a = c.args in
    let s = state_in a.rows a.n a.table (memory a.constant_tags.now a.constant_words.now) a.register_tags.now a.register_words.now a.program.now a.data_tags.now a.data_words.now in
    let h = c.requires.counted in
    let z₁ = tasks_put s a.output.now c.requires.room c.put_tasks-at.ensures.value c.put_tasks-at.ensures.output_after in
    let z₂ = part_put s a.output.now (processes_section a.table.users.flag (processes_from a.table.users.psw 0 a.table.users.queues)) (left₂ s) z₁ c.put_processes-at.ensures.value c.put_processes-at.ensures.output_after in
    let same = h.1.1.0 in
    (same, rw (cells_size 2 a.constant_words.now a.constant_tags.now same) at (room 0 _ _ z₂ {xs = cells_section 2 a.constant_tags.now a.constant_words.now} {left' = left₃ s} (record { is = refl })))

pub put_cells-at-requires-2 : goal.put_cells-at-requires-2
unfolding state_in
put_cells-at-requires-2 c =
    let a = c.args in
    let s = state_in a.rows a.n a.table (memory a.constant_tags.now a.constant_words.now) a.register_tags.now a.register_words.now a.program.now a.data_tags.now a.data_words.now in
    let h = c.requires.counted in
    let z₁ = tasks_put s a.output.now c.requires.room c.put_tasks-at.ensures.value c.put_tasks-at.ensures.output_after in
    let z₂ = part_put s a.output.now (processes_section a.table.users.flag (processes_from a.table.users.psw 0 a.table.users.queues)) (left₂ s) z₁ c.put_processes-at.ensures.value c.put_processes-at.ensures.output_after in
    let z₃ = part_put s a.output.now (cells_section 2 a.constant_tags.now a.constant_words.now) (left₃ s) z₂ c.put_cells-at.ensures.value c.put_cells-at.ensures.output_after in
    let same = h.1.1.1.0 in
    (same, rw (cells_size 2 a.register_words.now a.register_tags.now same) at (room 0 _ _ z₃ {xs = cells_section 2 a.register_tags.now a.register_words.now} {left' = left₄ s} (record { is = refl })))

pub put_words-at-requires : goal.put_words-at-requires
unfolding state_in
put_words-at-requires c =
    let a = c.args in
    let s = state_in a.rows a.n a.table (memory a.constant_tags.now a.constant_words.now) a.register_tags.now a.register_words.now a.program.now a.data_tags.now a.data_words.now in
    let h = c.requires.counted in
    let z₁ = tasks_put s a.output.now c.requires.room c.put_tasks-at.ensures.value c.put_tasks-at.ensures.output_after in
    let z₂ = part_put s a.output.now (processes_section a.table.users.flag (processes_from a.table.users.psw 0 a.table.users.queues)) (left₂ s) z₁ c.put_processes-at.ensures.value c.put_processes-at.ensures.output_after in
    let z₃ = part_put s a.output.now (cells_section 2 a.constant_tags.now a.constant_words.now) (left₃ s) z₂ c.put_cells-at.ensures.value c.put_cells-at.ensures.output_after in
    let z₄ = part_put s a.output.now (cells_section 2 a.register_tags.now a.register_words.now) (left₄ s) z₃ c.put_cells-at-2.ensures.value c.put_cells-at-2.ensures.output_after in
    rw (words_size 4 a.program.now) at (room 0 _ _ z₄ {xs = words_section 4 a.program.now} {left' = left₅ s} (record { is = refl }))

pub put_cells-requires : goal.put_cells-requires
unfolding state_in
put_cells-requires c =
    let a = c.args in
    let s = state_in a.rows a.n a.table (memory a.constant_tags.now a.constant_words.now) a.register_tags.now a.register_words.now a.program.now a.data_tags.now a.data_words.now in
    let h = c.requires.counted in
    let z₁ = tasks_put s a.output.now c.requires.room c.put_tasks-at.ensures.value c.put_tasks-at.ensures.output_after in
    let z₂ = part_put s a.output.now (processes_section a.table.users.flag (processes_from a.table.users.psw 0 a.table.users.queues)) (left₂ s) z₁ c.put_processes-at.ensures.value c.put_processes-at.ensures.output_after in
    let z₃ = part_put s a.output.now (cells_section 2 a.constant_tags.now a.constant_words.now) (left₃ s) z₂ c.put_cells-at.ensures.value c.put_cells-at.ensures.output_after in
    let z₄ = part_put s a.output.now (cells_section 2 a.register_tags.now a.register_words.now) (left₄ s) z₃ c.put_cells-at-2.ensures.value c.put_cells-at-2.ensures.output_after in
    let z₅ = part_put s a.output.now (words_section 4 a.program.now) (left₅ s) z₄ c.put_words-at.ensures.value c.put_words-at.ensures.output_after in
    let same = h.1.1.1.1 in
    (same, rw (cells_size 4 a.data_words.now a.data_tags.now same) at (room_all 0 _ _ z₅))

pub returns : goal.returns
unfolding state_in
returns c =
    let a = c.args in
    let s = state_in a.rows a.n a.table (memory a.constant_tags.now a.constant_words.now) a.register_tags.now a.register_words.now a.program.now a.data_tags.now a.data_words.now in
    let h = c.requires.counted in
    let z₁ = tasks_put s a.output.now c.requires.room c.put_tasks-at.ensures.value c.put_tasks-at.ensures.output_after in
    let z₂ = part_put s a.output.now (processes_section a.table.users.flag (processes_from a.table.users.psw 0 a.table.users.queues)) (left₂ s) z₁ c.put_processes-at.ensures.value c.put_processes-at.ensures.output_after in
    let z₃ = part_put s a.output.now (cells_section 2 a.constant_tags.now a.constant_words.now) (left₃ s) z₂ c.put_cells-at.ensures.value c.put_cells-at.ensures.output_after in
    let z₄ = part_put s a.output.now (cells_section 2 a.register_tags.now a.register_words.now) (left₄ s) z₃ c.put_cells-at-2.ensures.value c.put_cells-at-2.ensures.output_after in
    let z₅ = part_put s a.output.now (words_section 4 a.program.now) (left₅ s) z₄ c.put_words-at.ensures.value c.put_words-at.ensures.output_after in
    let e = c.put_cells.ensures in
    record { value = e.value ∙ z₅.place ∙ zero-add _; output_after = last 0 _ _ z₅ e.output_after }
