-- The image of accepted bytes, section by section, at its place.
use Rattle.std.specs.Prelude.{ℕ, ◌+◌, ◌≡◌, Bool, drop}
use Rattle.std.proofs.Math.Path.{refl}
use Rattle.std.proofs.Common.{ap, ap₂, add-zero, arith, drop-drop}
use mathlib.Core.List.{List}
use Rattle.std.proofs.lemmas.List.{length-map}
use Rattle.window.specs.Limits.{most_constants, most_registers, most_program, most_data}
use Rattle.refusal.specs.declared.Refusal.{Refusal}
use Rattle.word.specs.Fields.{psw_sound}
use Rattle.window.specs.declared.Row.{Row}
use Rattle.window.specs.Sound.{bits, tag_sound, state_sound, quality_sound}
use Rattle.step.specs.Soundness.{task_sound, kind_sound, record_sound, pt_sound, flag_sound}
use Rattle.refusal.specs.declared.Refusal.TheVariants.{TaskField, ProcessField}
use Rattle.image.specs.Codec.{field, uniform_section, no_state}
use Rattle.image.specs.Image.{row_codec, to_row, from_row, row_task, tasks_codec, process_codec, to_process, from_process, queue_after, processes_codec, row_length, process_length}
use Rattle.image.specs.Image.{words_codec, cells_codec, image_codec, to_image, from_image, memory_of, state_of, cell_length, word_length, tasks_length, processes_length, cells_length, words_length}
use Rattle.image_bytes.specs.Code.Reading.{field_at, listed, words_at, cell_from, cells_at}
use Rattle.image_bytes.specs.Laws.Listed.{length_listed, listed_at}
use Rattle.image_bytes.specs.Laws.Spans.{Spans, spans_as, num_spans, seq_spans, via_spans, section_spans, list_section_spans}
use Rattle.image_bytes.specs.Laws.Cells.{word_spans, cell_spans}
use Rattle.image_bytes.specs.Laws.Placed.{Placed, placed, seq_placed, via_placed}
use Rattle.library.specs.declared.Sizes.{Sizes}
use Rattle.library.specs.Buffers.{sizes_of}
use Rattle.image_check.specs.Code.Places.{row_at, rows_at, process_at, processes_at, sizes_in, image_at}
use Rattle.image_check.specs.Code.Places.{processes_place, constants_place, registers_place, program_place, data_place, end_place}

-- ---- rows and processes

pub row_spans : (before : ℕ) → Spans (row_codec before) (row_at 0) (λ _. row_length)
unfolding row_codec row_at
row_spans before =
    spans_as (via_spans to_row from_row
    (seq_spans (num_spans 1 TaskField (task_sound before))
    (λ _. seq_spans (num_spans 2 TaskField (bits 12))
    (λ _. seq_spans (num_spans 2 TaskField (bits 10))
    (λ _. seq_spans (num_spans 2 TaskField (bits 10))
    (λ _. seq_spans (num_spans 2 TaskField (bits 16))
    (λ _. seq_spans (num_spans 2 TaskField (bits 16))
    (λ _. seq_spans (num_spans 4 TaskField (bits 24))
    (λ _. seq_spans (num_spans 4 TaskField (bits 24))
    (λ _. seq_spans (num_spans 1 TaskField kind_sound)
    (λ kind. num_spans 8 TaskField (record_sound kind))))))))))))
    (λ b. simp drop-drop)

pub process_spans : (rows : List Row) (before : ℕ) → Spans (process_codec rows before) (process_at 0) (λ _. process_length)
unfolding process_codec process_at
process_spans rows before =
    spans_as (via_spans to_process from_process
    (seq_spans (num_spans 1 ProcessField pt_sound)
    (λ _. seq_spans (num_spans 1 ProcessField _)
    (λ _. num_spans 8 ProcessField psw_sound))))
    (λ b. simp drop-drop)

row_place : (s : List ℕ) (p : ℕ) → row_at 0 (drop p s) ≡ row_at p s
unfolding row_at
row_place s p = simp (drop-drop, add-zero)

process_place : (s : List ℕ) (p : ℕ) → process_at 0 (drop p s) ≡ process_at p s
unfolding process_at
process_place s p = simp (drop-drop, add-zero)

-- ---- sections

pub tasks_spans : Spans tasks_codec (λ b. listed row_length (λ p. row_at 0 (drop p b)) (field 1 b) 1) (λ b. tasks_length (field 1 b))
unfolding tasks_codec
tasks_spans = list_section_spans row_task row_spans 1 7 0

pub processes_spans : (rows : List Row)
    → Spans (processes_codec rows) (λ b. (field 1 (drop 1 b), listed process_length (λ p. process_at 0 (drop p b)) (field 1 b) 2)) (λ b. processes_length (field 1 b))
unfolding processes_codec
processes_spans rows = section_spans queue_after (process_spans rows) (num_spans 1 ProcessField flag_sound) 1 64 0

pub words_spans : (w most : ℕ) → Spans (words_codec w most) (λ b. listed word_length (λ p. field word_length (drop p b)) (field w b) w) (λ b. words_length w (field w b))
unfolding words_codec uniform_section
words_spans w most = list_section_spans no_state (λ _. word_spans) w most tt

pub cells_spans : (e : Refusal) (f : ℕ → Bool) (w most : ℕ) → Spans (cells_codec e f w most) (λ b. listed cell_length (λ p. cell_from 0 (drop p b)) (field w b) w) (λ b. cells_length w (field w b))
unfolding cells_codec uniform_section
cells_spans e f w most = list_section_spans no_state (λ _. cell_spans e f) w most tt

-- the rows of the whole input
pub first_rows : (s : List ℕ) (n : ℕ) → listed row_length (λ p. row_at 0 (drop p s)) n 1 ≡ rows_at n s
unfolding rows_at
first_rows s n = listed_at row_length (row_at 0) (λ p. row_at p s) s (row_place s) 0 n 1

module _ (s : List ℕ) where
  tasks_placed : Placed s tasks_codec 0 (rows_at (field_at 1 0 s) s) (tasks_length (field_at 1 0 s))
  tasks_placed = placed tasks_spans s 0 (first_rows s (field 1 s)) (omega arith)

  module _ (p : ℕ) where
    processes_placed : (rows : List Row)
        → Placed s (processes_codec rows) p (field_at 1 (p + 1) s, processes_at (field_at 1 p s) (p + 2) s) (p + processes_length (field_at 1 p s))
    unfolding processes_at
    processes_placed rows =
        placed (processes_spans rows) s p
        (ap₂ (λ (f : ℕ) (l : List _). (f, l)) (ap (field 1) (drop-drop 1 p s))
        (listed_at process_length (process_at 0) (λ q. process_at q s) s (process_place s) p (field_at 1 p s) 2))
        refl

    words_placed : (w most : ℕ) → Placed s (words_codec w most) p (words_at (field_at w p s) (p + w) s) (p + words_length w (field_at w p s))
    unfolding words_at
    words_placed w most = placed (words_spans w most) s p (listed_at word_length (field word_length) (λ q. field_at word_length q s) s (λ q. refl) p (field_at w p s) w) refl

    cells_placed : (e : Refusal) (f : ℕ → Bool) (w most : ℕ) → Placed s (cells_codec e f w most) p (cells_at (field_at w p s) (p + w) s) (p + cells_length w (field_at w p s))
    unfolding cells_at
    cells_placed e f w most =
        placed (cells_spans e f w most) s p (listed_at cell_length (cell_from 0) (λ q. cell_from q s) s (λ q. simp (drop-drop, add-zero)) p (field_at w p s) w) refl

  -- the whole
  pub image_placed : Placed s image_codec 0 (image_at (sizes_in s) s) (end_place (sizes_in s) s)
  unfolding image_codec image_at end_place data_place program_place registers_place constants_place processes_place sizes_in
  image_placed =
      via_placed to_image from_image
      (seq_placed tasks_placed
      (λ rows. seq_placed (processes_placed _ rows)
      (λ _. seq_placed (cells_placed _ _ quality_sound 2 most_constants)
      (λ _. seq_placed (cells_placed _ _ tag_sound 2 most_registers)
      (λ _. seq_placed (words_placed _ 4 most_program)
      (λ _. cells_placed _ _ state_sound 4 most_data))))))

-- its sizes are those that it was read by
pub sizes_image : (n : Sizes) (s : List ℕ) → sizes_of (state_of (image_at n s)) ≡ n
unfolding sizes_of state_of memory_of image_at rows_at processes_at words_at cells_at
sizes_image n s = simp (length-map, length_listed)
