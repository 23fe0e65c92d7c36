-- The formats of an image are lawful.
use Rattle.std.specs.Prelude.{ℕ, refl, Bool, true, List}
use Rattle.window.specs.Limits.{most_constants, most_registers, most_program, most_data}
use Rattle.word.specs.Fields.{psw_sound}
use Rattle.window.specs.declared.Row.{Row}
use Rattle.window.specs.Sound.{bits, quality_sound, tag_sound, state_sound}
use Rattle.step.specs.Soundness.{task_sound, kind_sound, record_sound, pt_sound, flag_sound}
use Rattle.refusal.specs.declared.Refusal.{Refusal}
use Rattle.image.proofs.Laws.Codec.{Lawful, num_lawful, seq_lawful, via_lawful, section_lawful, list_section_lawful, uniform_lawful}
use Rattle.image.specs.Image.{row_codec, to_row, from_row, row_task, tasks_codec, process_codec, to_process, from_process, queue_after, processes_codec}
use Rattle.image.specs.Image.{word_codec, words_codec, cell_codec, to_cell, from_cell, cells_codec, image_codec, to_image, from_image}

pub row_lawful : (before : ℕ) → Lawful (row_codec before)
unfolding row_codec
row_lawful before =
    via_lawful to_row from_row (λ x. refl) (λ x. refl)
    (seq_lawful (num_lawful 1 _ (task_sound before))
    (λ _. seq_lawful (num_lawful 2 _ (bits 12))
    (λ _. seq_lawful (num_lawful 2 _ (bits 10))
    (λ _. seq_lawful (num_lawful 2 _ (bits 10))
    (λ _. seq_lawful (num_lawful 2 _ (bits 16))
    (λ _. seq_lawful (num_lawful 2 _ (bits 16))
    (λ _. seq_lawful (num_lawful 4 _ (bits 24))
    (λ _. seq_lawful (num_lawful 4 _ (bits 24))
    (λ _. seq_lawful (num_lawful 1 _ kind_sound)
    (λ kind. num_lawful 8 _ (record_sound kind)))))))))))

pub process_lawful : (rows : List Row) (before : ℕ) → Lawful (process_codec rows before)
unfolding process_codec
process_lawful rows before =
    via_lawful to_process from_process (λ x. refl) (λ x. refl)
    (seq_lawful (num_lawful 1 _ pt_sound)
    (λ _. seq_lawful (num_lawful 1 _ _)
    (λ _. num_lawful 8 _ psw_sound)))

word_lawful : Lawful word_codec
unfolding word_codec
word_lawful = num_lawful 8 _ (λ _. true)

cell_lawful : (e : Refusal) (good : ℕ → Bool) → Lawful (cell_codec e good)
unfolding cell_codec
cell_lawful e good = via_lawful to_cell from_cell (λ x. refl) (λ x. refl) (seq_lawful (num_lawful 1 _ good) (λ _. word_lawful))

words_lawful : (w most : ℕ) → Lawful (words_codec w most)
unfolding words_codec
words_lawful w most = uniform_lawful word_lawful w most

cells_lawful : (e : Refusal) (good : ℕ → Bool) (w most : ℕ) → Lawful (cells_codec e good w most)
unfolding cells_codec
cells_lawful e good w most = uniform_lawful (cell_lawful e good) w most

tasks_lawful : Lawful tasks_codec
unfolding tasks_codec
tasks_lawful = list_section_lawful row_task row_lawful 1 7 0

processes_lawful : (rows : List Row) → Lawful (processes_codec rows)
unfolding processes_codec
processes_lawful rows = section_lawful queue_after (process_lawful rows) (num_lawful 1 _ flag_sound) 1 64 0

pub image_lawful : Lawful image_codec
unfolding image_codec
image_lawful =
    via_lawful to_image from_image (λ x. refl) (λ x. refl)
    (seq_lawful tasks_lawful
    (λ rows. seq_lawful (processes_lawful rows)
    (λ _. seq_lawful (cells_lawful _ quality_sound 2 most_constants)
    (λ _. seq_lawful (cells_lawful _ tag_sound 2 most_registers)
    (λ _. seq_lawful (words_lawful 4 most_program)
    (λ _. cells_lawful _ state_sound 4 most_data))))))
