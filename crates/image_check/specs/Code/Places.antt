-- The image of accepted bytes, section by section, at its place: what the check and the reader take from the bytes.
use Rattle.std.specs.Prelude.{ℕ, ◌+◌, List}
use Rattle.window.specs.declared.Row.{Row}
use Rattle.step.specs.Soundness.{kind_sound, record_sound}
use Rattle.refusal.specs.declared.Refusal.TheVariants.{TaskField}
use Rattle.image.specs.declared.Process.{Process}
use Rattle.image.specs.Codec.{Codec, num, seq}
use Rattle.image.specs.Image.{Image, row_length, process_length, tasks_length, constants_begin, registers_begin, program_begin, data_begin, image_length}
use Rattle.image_bytes.specs.Code.Reading.{field_at, listed, words_at, cells_at}
use Rattle.library.specs.declared.Sizes.{Sizes}

-- ---- rows and processes at a place

unfoldable pub row_at : (at : ℕ) → List ℕ → Row
row_at at s = record {
  task = field_at 1 at s;
  cb = field_at 2 (at + 1) s;
  rb = field_at 2 (at + 3) s;
  rl = field_at 2 (at + 5) s;
  pb = field_at 2 (at + 7) s;
  pl = field_at 2 (at + 9) s;
  db = field_at 4 (at + 11) s;
  dl = field_at 4 (at + 15) s;
  kind = field_at 1 (at + 19) s;
  psw = field_at 8 (at + 20) s;
}

-- n rows, from the first
unfoldable pub rows_at : (n : ℕ) → List ℕ → List Row
rows_at n s = listed row_length (λ p. row_at p s) n 1

unfoldable pub process_at : (at : ℕ) → List ℕ → Process
process_at at s = record { pt = field_at 1 at s; task = field_at 1 (at + 1) s; psw = field_at 8 (at + 2) s }

unfoldable pub processes_at : (n at : ℕ) → List ℕ → List Process
processes_at n at s = listed process_length (λ p. process_at p s) n at

-- their PTs
unfoldable pub pts_at : (n at : ℕ) → List ℕ → List ℕ
pts_at n at s = listed process_length (λ p. field_at 1 p s) n at

-- ---- the sections: each starts with its count, and the processes have their flag behind it

unfoldable pub processes_place : Sizes → ℕ
processes_place n = tasks_length n.rows

abbrev pub process_count : Sizes → List ℕ → ℕ
process_count n s = field_at 1 (processes_place n) s

unfoldable pub constants_place : Sizes → List ℕ → ℕ
constants_place n s = constants_begin n.rows (process_count n s)

unfoldable pub registers_place : Sizes → List ℕ → ℕ
registers_place n s = registers_begin n.rows (process_count n s) n.constants

unfoldable pub program_place : Sizes → List ℕ → ℕ
program_place n s = program_begin n.rows (process_count n s) n.constants n.registers

unfoldable pub data_place : Sizes → List ℕ → ℕ
data_place n s = data_begin n.rows (process_count n s) n.constants n.registers n.program

unfoldable pub end_place : Sizes → List ℕ → ℕ
end_place n s = image_length n.rows (process_count n s) n.constants n.registers n.program n.data_words

-- the sizes of the state, as the counts in the bytes have them
unfoldable pub sizes_in : List ℕ → Sizes
sizes_in s =
    let rows = field_at 1 0 s in
    let processes = field_at 1 (tasks_length rows) s in
    let constants = field_at 2 (constants_begin rows processes) s in
    let registers = field_at 2 (registers_begin rows processes constants) s in
    let program = field_at 4 (program_begin rows processes constants registers) s in
    let data_words = field_at 4 (data_begin rows processes constants registers program) s in
    record { rows = rows; constants = constants; registers = registers; program = program; data_words = data_words }

-- the image whose sections have these sizes
unfoldable pub image_at : Sizes → List ℕ → Image
image_at n s = record {
  rows = rows_at n.rows s;
  flag = field_at 1 (processes_place n + 1) s;
  processes = processes_at (process_count n s) (processes_place n + 2) s;
  constants = cells_at n.constants (constants_place n s + 2) s;
  registers = cells_at n.registers (registers_place n s + 2) s;
  program = words_at n.program (program_place n s + 4) s;
  data_words = cells_at n.data_words (data_place n s + 4) s;
}

-- ---- parts of the tests

-- the trap record of a row
unfoldable pub trap_codec : Codec (ℕ × ℕ)
trap_codec = seq (num 1 TaskField kind_sound) (λ kind. num 8 TaskField (record_sound kind))
