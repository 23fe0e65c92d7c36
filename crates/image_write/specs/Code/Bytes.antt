-- The bytes of an image part by part: what a field must be plays no part in how it is written.
-- They are steps of the writer, none of document 01's terms; their whole is `encode` (law image_bytes_lem).
use Rattle.std.specs.Prelude.{ℕ, List, [], ◌++◌, length}
use Rattle.window.specs.declared.Row.{Row}
use Rattle.step.specs.State.{State}
use Rattle.image.specs.declared.Process.{Process}
use Rattle.image.specs.Codec.{digits, enc_many, no_state}
use Rattle.image.specs.Image.{row_codec, process_codec, processes_from}
use Rattle.image_bytes.specs.Code.Writing.{word_bytes, cell_bytes}

-- a row in three parts: number, CB, RB and RL; PB, PL, DB and DL; the trap record
unfoldable pub row_first : Row → List ℕ
row_first r = digits 1 r.task ++ (digits 2 r.cb ++ (digits 2 r.rb ++ digits 2 r.rl))

unfoldable pub row_second : Row → List ℕ
row_second r = digits 2 r.pb ++ (digits 2 r.pl ++ (digits 4 r.db ++ digits 4 r.dl))

unfoldable pub row_record : Row → List ℕ
row_record r = digits 1 r.kind ++ digits 8 r.psw

unfoldable pub row_bytes : Row → List ℕ
row_bytes r = (row_codec 0).enc r

unfoldable pub process_bytes : Process → List ℕ
process_bytes p = (process_codec [] 0).enc p

unfoldable pub rows_bytes : List Row → List ℕ
rows_bytes rows = enc_many (λ _. row_codec 0) no_state tt rows

unfoldable pub processes_bytes : List Process → List ℕ
processes_bytes ps = enc_many (λ _. process_codec [] 0) no_state tt ps

-- the sections, each after its count
unfoldable pub tasks_section : List Row → List ℕ
tasks_section rows = digits 1 (length rows) ++ rows_bytes rows

unfoldable pub processes_section : (flag : ℕ) → List Process → List ℕ
processes_section flag ps = digits 1 (length ps) ++ (digits 1 flag ++ processes_bytes ps)

unfoldable pub words_section : (w : ℕ) → (words : List ℕ) → List ℕ
words_section w words = digits w (length words) ++ word_bytes words

unfoldable pub cells_section : (w : ℕ) → (tags words : List ℕ) → List ℕ
cells_section w tags words = digits w (length words) ++ cell_bytes tags words

-- the whole image: its sections in order
unfoldable pub image_bytes : State → List ℕ
image_bytes s =
    tasks_section s.rows
    ++ (processes_section s.table.users.flag (processes_from s.table.users.psw 0 s.table.users.queues)
    ++ (cells_section 2 s.constants.tags s.constants.words
    ++ (cells_section 2 s.registers.tags s.registers.words
    ++ (words_section 4 s.program
    ++ cells_section 4 s.data_words.tags s.data_words.words))))
