-- The image: sections in fixed order, each after its count; what its fields are as a state; reading and writing.
use Rattle.std.specs.Prelude.{ℕ, zero, suc, ◌+◌, ◌-◌, ◌*◌, ◌/◌, ◌%◌, Bool, true, cond, not, ◌&&◌, List, [], ◌∷◌, ◌++◌, map, length, get_or, set, replicate, leb, ltb, eqb}
use Rattle.word.specs.Fields.{psw_sound}
use Rattle.window.specs.declared.Row.{Row}
use Rattle.window.specs.declared.Cell.{Cell}
use Rattle.window.specs.Memories.{Memory, memory, cell, tag_of, word_of}
use Rattle.step.specs.declared.Queue.{Queue}
use Rattle.step.specs.Queues.{places, queue_count, list_of, pt_count}
use Rattle.step.specs.State.{State}
use Rattle.step.specs.Act.{table_of}
use Rattle.window.specs.Sound.{bits, quality_sound, tag_sound, state_sound}
use Rattle.step.specs.Soundness.{task_sound, kind_sound, record_sound, pt_sound, flag_sound, has_row, distinct, total_sound, windows_sound}
use Rattle.refusal.specs.declared.Refusal.{Refusal}
use Rattle.refusal.specs.declared.Refusal.TheVariants.{TaskField, ProcessField, ConstantField, CellField, BytesLeftOver, WindowPastMemory, ProcessesClash}
use Rattle.image.specs.declared.Process.{Process}
use Rattle.image.specs.Codec.{Codec, Result, refused, accepted, num, seq, via, section, list_section, uniform_section}
use Rattle.window.specs.Limits.{tasks, most_constants, most_registers, most_program, most_data}

-- the fields of an image
pub record Image : Type 0 where
  pub rows : List Row
  pub flag : ℕ
  pub processes : List Process
  pub constants : List Cell
  pub registers : List Cell
  pub program : List ℕ
  pub data_words : List Cell

-- ---- tasks: count 1 byte (to 7); number 1, CB RB RL PB PL 2 each, DB DL 4 each, trap kind 1 (FF none), trapped PSW 8 (zero if none)

abbrev pub RowFields : Type 0
RowFields = ℕ × (ℕ × (ℕ × (ℕ × (ℕ × (ℕ × (ℕ × (ℕ × (ℕ × ℕ))))))))

abbrev pub to_row : RowFields → Row
to_row fields =
    let (task, (cb, (rb, (rl, (pb, (pl, (db, (dl, (kind, psw))))))))) = fields in
    record { task = task; cb = cb; rb = rb; rl = rl; pb = pb; pl = pl; db = db; dl = dl; kind = kind; psw = psw }

abbrev pub from_row : Row → RowFields
from_row r = (r.task, (r.cb, (r.rb, (r.rl, (r.pb, (r.pl, (r.db, (r.dl, (r.kind, r.psw)))))))))

-- a row after the row of task `before`
unfoldable pub row_codec : (before : ℕ) → Codec Row
row_codec before =
    via to_row from_row
    (seq (num 1 TaskField (task_sound before)) (λ task.
    seq (num 2 TaskField (bits 12)) (λ cb.
    seq (num 2 TaskField (bits 10)) (λ rb.
    seq (num 2 TaskField (bits 10)) (λ rl.
    seq (num 2 TaskField (bits 16)) (λ pb.
    seq (num 2 TaskField (bits 16)) (λ pl.
    seq (num 4 TaskField (bits 24)) (λ db.
    seq (num 4 TaskField (bits 24)) (λ dl.
    seq (num 1 TaskField kind_sound) (λ kind.
    num 8 TaskField (record_sound kind)))))))))))

abbrev pub row_task : ℕ → Row → ℕ
row_task before r = r.task

unfoldable pub tasks_codec : Codec (List Row)
tasks_codec = list_section row_codec row_task 1 tasks 0

-- ---- processes: count 1 (to 64), flag 1 (0 or 1); PT 1, task 1 (hex 10 more in the SFU queue), PSW 8, by
-- ascending task, the SFU queue behind the task's queue, then queue order

abbrev pub ProcessFields : Type 0
ProcessFields = ℕ × (ℕ × ℕ)

abbrev pub to_process : ProcessFields → Process
to_process fields = let (pt, (task, psw)) = fields in record { pt = pt; task = task; psw = psw }

abbrev pub from_process : Process → ProcessFields
from_process p = (p.pt, (p.task, p.psw))

-- the number of the queue that a task byte names, and the byte that names a queue: the task, and hex 10 more for its SFU queue
unfoldable pub queue_of_byte : (b : ℕ) → ℕ
queue_of_byte b = 2 * (b % 16) + b / 16

unfoldable pub byte_of_queue : (k : ℕ) → ℕ
byte_of_queue k = k / 2 + 16 * (k % 2)

-- a task byte: a listed task, for its SFU queue hex 10 more
unfoldable pub byte_sound : List Row → (b : ℕ) → Bool
byte_sound rows b = ltb b 32 && has_row (b % 16) rows

-- a process of a listed task, after one of the queue with number `before`
unfoldable pub process_codec : List Row → (before : ℕ) → Codec Process
process_codec rows before =
    via to_process from_process
    (seq (num 1 ProcessField pt_sound) (λ pt.
    seq (num 1 ProcessField (λ b. leb before (queue_of_byte b) && byte_sound rows b)) (λ task.
    num 8 ProcessField psw_sound)))

abbrev pub process_queue : Process → ℕ
process_queue p = queue_of_byte p.task

abbrev pub queue_after : (before : ℕ) → Process → ℕ
queue_after before p = process_queue p

-- the flag, and the processes
unfoldable pub processes_codec : List Row → Codec (ℕ × List Process)
processes_codec rows = section (num 1 ProcessField flag_sound) (process_codec rows) queue_after 1 pt_count 0

-- ---- constants: count 2 (to 4,096); quality 1, word. Registers: count 2 (to 2,048); tag 1, word. Program: count 4 (to 2^20), words. Data:
-- count 4 (to 2^20); state 1, word. Words are 8 bytes

-- a word: any 8 bytes
unfoldable pub word_codec : Codec ℕ
word_codec = num 8 CellField (λ _. true)

unfoldable pub words_codec : (w most : ℕ) → Codec (List ℕ)
words_codec w most = uniform_section word_codec w most

abbrev pub CellFields : Type 0
CellFields = ℕ × ℕ

abbrev pub to_cell : CellFields → Cell
to_cell fields = let (tag, word) = fields in cell tag word

abbrev pub from_cell : Cell → CellFields
from_cell c = (c.tag, c.word)

-- a quality, tag or state, refused by e where it isn't allowed, and a word
unfoldable pub cell_codec : (e : Refusal) → (allowed : ℕ → Bool) → Codec Cell
cell_codec e allowed = via to_cell from_cell (seq (num 1 e allowed) (λ tag. word_codec))

unfoldable pub cells_codec : (e : Refusal) → (allowed : ℕ → Bool) → (w most : ℕ) → Codec (List Cell)
cells_codec e allowed w most = uniform_section (cell_codec e allowed) w most

-- the four sections
abbrev pub constants_codec : Codec (List Cell)
constants_codec = cells_codec ConstantField quality_sound 2 most_constants

abbrev pub registers_codec : Codec (List Cell)
registers_codec = cells_codec CellField tag_sound 2 most_registers

abbrev pub program_codec : Codec (List ℕ)
program_codec = words_codec 4 most_program

abbrev pub data_codec : Codec (List Cell)
data_codec = cells_codec CellField state_sound 4 most_data

-- ---- the whole

abbrev pub ImageFields : Type 0
ImageFields = List Row × ((ℕ × List Process) × (List Cell × (List Cell × (List ℕ × List Cell))))

abbrev pub to_image : ImageFields → Image
to_image fields =
    let (rows, ((flag, processes), (constants, (registers, (program, data_words))))) = fields in
    record {
      rows = rows;
      flag = flag;
      processes = processes;
      constants = constants;
      registers = registers;
      program = program;
      data_words = data_words;
    }

abbrev pub from_image : Image → ImageFields
from_image i = (i.rows, ((i.flag, i.processes), (i.constants, (i.registers, (i.program, i.data_words)))))

unfoldable pub image_codec : Codec Image
image_codec =
    via to_image from_image
    (seq tasks_codec (λ rows.
    seq (processes_codec rows) (λ processes.
    seq constants_codec (λ constants.
    seq registers_codec (λ registers.
    seq program_codec (λ program.
    data_codec))))))

-- the bytes of a row, a process, a cell and a word
abbrev pub row_length : ℕ
row_length = 28

abbrev pub process_length : ℕ
process_length = 10

abbrev pub cell_length : ℕ
cell_length = 9

abbrev pub word_length : ℕ
word_length = 8

-- the bytes of a section of n rows, processes, cells or words with its count, of w bytes where sections differ in it
abbrev pub tasks_length : (n : ℕ) → ℕ
tasks_length n = 1 + row_length * n

abbrev pub processes_length : (n : ℕ) → ℕ
processes_length n = 2 + process_length * n

abbrev pub cells_length : (w n : ℕ) → ℕ
cells_length w n = w + cell_length * n

abbrev pub words_length : (w n : ℕ) → ℕ
words_length w n = w + word_length * n

-- where a section begins, by how many values each section before it has; the tasks begin at 0 and the processes behind them
abbrev pub constants_begin : (rows processes : ℕ) → ℕ
constants_begin rows processes = tasks_length rows + processes_length processes

abbrev pub registers_begin : (rows processes constants : ℕ) → ℕ
registers_begin rows processes constants = constants_begin rows processes + cells_length 2 constants

abbrev pub program_begin : (rows processes constants registers : ℕ) → ℕ
program_begin rows processes constants registers = registers_begin rows processes constants + cells_length 2 registers

abbrev pub data_begin : (rows processes constants registers program : ℕ) → ℕ
data_begin rows processes constants registers program = program_begin rows processes constants registers + words_length 4 program

-- how long the image is
abbrev pub image_length : (rows processes constants registers program data_words : ℕ) → ℕ
image_length rows processes constants registers program data_words = data_begin rows processes constants registers program + cells_length 4 data_words

-- ---- the image as a state

abbrev pub pt_of : Process → ℕ
pt_of p = p.pt

-- the PTs of the queue with number k, in their order
unfoldable pub pts_of : (k : ℕ) → List Process → List ℕ
pts_of k [] = []
pts_of k (p ∷ ps) = cond (eqb (process_queue p) k) (p.pt ∷ pts_of k ps) (pts_of k ps)

-- a queue of these PTs from the start of its array
unfoldable pub queue_of : List ℕ → Queue
queue_of pts = record { pts = pts ++ replicate (places - length pts) 0; head = 0; len = length pts }

-- n queues from number k on
unfoldable pub queues_of : (n k : ℕ) → List Process → List Queue
queues_of zero k ps = []
queues_of (suc n) k ps = queue_of (pts_of k ps) ∷ queues_of n (suc k) ps

-- each process's PSW at its PT
unfoldable pub psw_table : List Process → List ℕ
psw_table [] = replicate pt_count 0
psw_table (p ∷ ps) = set (psw_table ps) p.pt p.psw

unfoldable pub memory_of : List Cell → Memory
memory_of cells = memory (map tag_of cells) (map word_of cells)

-- the state that reading gives; the live counts are worked out
unfoldable pub state_of : Image → State
state_of i = record {
  rows = i.rows;
  table = table_of (psw_table i.processes) (queues_of queue_count 0 i.processes) i.flag;
  constants = memory_of i.constants;
  registers = memory_of i.registers;
  program = i.program;
  data_words = memory_of i.data_words;
}

-- ---- the fields of a state

-- the processes of the queue with number k in its order
unfoldable pub processes_in : (psw : List ℕ) → (k : ℕ) → (pts : List ℕ) → List Process
processes_in psw k [] = []
processes_in psw k (p ∷ pts) = record { pt = p; task = byte_of_queue k; psw = get_or psw p 0 } ∷ processes_in psw k pts

-- the processes of the queues from number k on
unfoldable pub processes_from : (psw : List ℕ) → (k : ℕ) → List Queue → List Process
processes_from psw k [] = []
processes_from psw k (q ∷ qs) = processes_in psw k (list_of q) ++ processes_from psw (suc k) qs

unfoldable pub cells_of : (tags words : List ℕ) → List Cell
cells_of [] words = []
cells_of (t ∷ tags) [] = []
cells_of (t ∷ tags) (w ∷ words) = cell t w ∷ cells_of tags words

-- a state is the fields of its image
unfoldable pub image_of : State → Image
image_of s = record {
  rows = s.rows;
  flag = s.table.users.flag;
  processes = processes_from s.table.users.psw 0 s.table.users.queues;
  constants = cells_of s.constants.tags s.constants.words;
  registers = cells_of s.registers.tags s.registers.words;
  program = s.program;
  data_words = cells_of s.data_words.tags s.data_words.words;
}

-- ---- reading and writing

-- a refusal, or the image that was read
pub data Decoded : Type 0 where
  bad : Refusal → Decoded
  good : Image → Decoded

-- after the last section: 4 bytes left over, 5 a window that isn't empty ends past its memory, 6 a PT twice or 64 processes with flag 0
unfoldable pub after_sections : Result Image → Decoded
after_sections (refused e) = bad e
after_sections (accepted i (x ∷ r)) = bad BytesLeftOver
after_sections (accepted i []) =
    cond (not (windows_sound (length i.registers) (length i.program) (length i.data_words) i.rows)) (bad WindowPastMemory)
    (cond (not (distinct (map pt_of i.processes) && total_sound (length i.processes) i.flag)) (bad ProcessesClash)
    (good i))

-- reading an image: refusals 1, 2, 3, 12, 14 and 13 in byte order, then 4, 5 and 6
unfoldable pub decode : List ℕ → Decoded
decode b = after_sections (image_codec.dec b)

-- the bytes of a state's image
unfoldable pub encode : State → List ℕ
encode s = image_codec.enc (image_of s)
