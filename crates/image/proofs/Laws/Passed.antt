-- The values of the image's format, field by field: the test of each format is that of its fields.
use Rattle.std.specs.Prelude.{ℕ, ◌^◌, ◌+◌, ◌%◌, ◌≤◌, ◌<◌, ◌≡◌, Bool, true, false, cond, ◌||◌, length, eqb, ltb}
use Rattle.std.proofs.Math.Path.{refl, sym, ap, ap₂}
use Rattle.std.proofs.Common.{◌∙◌, arith}
use Rattle.std.proofs.Math.Bool.{◌&&◌}
use Rattle.std.proofs.lemmas.Bool.{false≢true}
use mathlib.Core.List.{List, [], ◌∷◌, map}
use Rattle.std.proofs.Math.ListN.{length-map}
use Rattle.std.proofs.Math.Dec.{leb}
use borrow.Author.Tests.{eqb-true, eq-eqb, leb-true, le-leb, ltb-true, lt-ltb}
use Rattle.window.specs.Limits.{most_constants, most_registers, most_program, most_data}
use Rattle.word.specs.Fields.{psw_sound}
use Rattle.window.specs.declared.Row.{Row}
use Rattle.window.specs.declared.Cell.{Cell}
use Rattle.window.specs.Sound.{bits, word_sound, quality_sound, tag_sound, state_sound}
use Rattle.window.specs.Memories.{tag_of, word_of}
use Rattle.word.proofs.Laws.Bools.{Eq?, same, differ, eq?, and_left, and_right}
use Rattle.word.proofs.Laws.Conjunctions.{also, both, and_assoc}
use Rattle.step.specs.Step.{no_trap}
use Rattle.operation.specs.Environment.{kind_of}
use Rattle.step.specs.Soundness.{every, member, task_sound, kinds, kind_sound, record_sound, bases_sound, row_sound, rows_sound, pt_sound, flag_sound, has_row, words_sound}
use Rattle.step.specs.Soundness.{memory_sound}
use Rattle.step.proofs.Laws.Every.{every_parts}
use Rattle.refusal.specs.declared.Refusal.{Refusal}
use Rattle.refusal.specs.declared.Refusal.TheVariants.{CountOverLimit, ConstantField, CellField}
use Rattle.image.specs.declared.Process.{Process}
use Rattle.image.specs.Codec.{Codec, num, count, seq, via, ok_many, section, no_header, list_section, no_state, uniform_section}
use Rattle.image.specs.Image.{Image, row_codec, row_task, tasks_codec, queue_of_byte, byte_sound, process_codec, process_queue, queue_after, processes_codec, word_codec}
use Rattle.image.specs.Image.{words_codec, cell_codec, cells_codec, image_codec, pt_of, memory_of}
use Rattle.image.proofs.Laws.Conjoined.{and_implied, and_true, and_turn, and_cross}

-- ---- numbers: what passes its test fits in its bytes

num_ok : (w : ℕ) (e : Refusal) (good : ℕ → Bool) → ((v : ℕ) → good v ≡ true → v < 256 ^ w) → (v : ℕ) → (num w e good).ok v ≡ good v
unfolding num
num_ok w e good fits v = and_implied (ltb v (256 ^ w)) (good v) (λ g. lt-ltb v (256 ^ w) (fits v g))

bits_ok : (k w : ℕ) (e : Refusal) → 2 ^ k ≤ 256 ^ w → (v : ℕ) → (num w e (bits k)).ok v ≡ bits k v
unfolding bits
bits_ok k w e le = num_ok w e (bits k) (λ v g. omega (arith, ltb-true v (2 ^ k) g))

task_fits : (before t : ℕ) → task_sound before t ≡ true → t < 256 ^ 1
unfolding task_sound
task_fits before t g = omega (arith, leb-true t 7 (and_right (ltb before t) (leb t 7) g))

member_passes : (test : ℕ → Bool) (x : ℕ) (l : List ℕ) → every test l ≡ true → member x l ≡ true → test x ≡ true
unfolding member
member_passes test x [] e m = absurd (false≢true m)
member_passes test x (y ∷ l) e m = go (eqb x y) (eq? x y) m (member_passes test x l (every_parts test y l e).1)
  where
    go : (b : Bool) → Eq? x y b → b || member x l ≡ true → (member x l ≡ true → test x ≡ true) → test x ≡ true
    go true (same q) m ih = ap test q ∙ (every_parts test y l e).0
    go false (differ q) m ih = ih m

kind_fits : (k : ℕ) → kind_sound k ≡ true → k < 256 ^ 1
unfolding kind_sound kinds kind_of every
kind_fits k g = ltb-true k 256 (member_passes (λ x. ltb x 256) k kinds refl g)

psw_fits : (v : ℕ) → psw_sound v ≡ true → v < 256 ^ 8
unfolding psw_sound
psw_fits v g = omega (arith, ltb-true v (2 ^ 56) (and_left (ltb v (2 ^ 56)) _ g))

record_fits : (kind v : ℕ) → record_sound kind v ≡ true → v < 256 ^ 8
unfolding record_sound
record_fits kind v g = go (eqb kind no_trap) g
  where
    go : (b : Bool) → cond b (eqb v 0) (psw_sound v) ≡ true → v < 256 ^ 8
    go true g = omega (arith, eqb-true v 0 g)
    go false g = psw_fits v g

quality_fits : (q : ℕ) → quality_sound q ≡ true → q < 256 ^ 1
unfolding quality_sound
quality_fits q g = omega (arith, leb-true q 6 g)

tag_fits : (t : ℕ) → tag_sound t ≡ true → t < 256 ^ 1
unfolding tag_sound
tag_fits t g = go (leb t 6) (leb t 14) refl refl g
  where
    go : (a b : Bool) → leb t 6 ≡ a → leb t 14 ≡ b → a || (leb 8 t && b) ≡ true → t < 256 ^ 1
    go true b e f g = omega (arith, leb-true t 6 e)
    go false true e f g = omega (arith, leb-true t 14 f)
    go false false e f g = absurd (false≢true (and_right (leb 8 t) false g))

state_fits : (t : ℕ) → state_sound t ≡ true → t < 256 ^ 1
unfolding state_sound
state_fits t g = omega (arith, leb-true t 1 g)

-- ---- values

row_ok : (before : ℕ) (r : Row) → (row_codec before).ok r ≡ row_sound before r
unfolding row_codec via seq row_sound bases_sound
row_ok before r =
    simp and_assoc
    (ap₂ ◌&&◌ (num_ok 1 _ (task_sound before) (task_fits before) r.task)
    (ap₂ ◌&&◌ (bits_ok 12 2 _ (omega arith) r.cb)
    (ap₂ ◌&&◌ (bits_ok 10 2 _ (omega arith) r.rb)
    (ap₂ ◌&&◌ (bits_ok 10 2 _ (omega arith) r.rl)
    (ap₂ ◌&&◌ (bits_ok 16 2 _ (omega arith) r.pb)
    (ap₂ ◌&&◌ (bits_ok 16 2 _ (omega arith) r.pl)
    (ap₂ ◌&&◌ (bits_ok 24 4 _ (omega arith) r.db)
    (ap₂ ◌&&◌ (bits_ok 24 4 _ (omega arith) r.dl)
    (ap₂ ◌&&◌ (num_ok 1 _ kind_sound kind_fits r.kind) (num_ok 8 _ (record_sound r.kind) (record_fits r.kind) r.psw))))))))))

word_ok : (v : ℕ) → word_codec.ok v ≡ word_sound v
unfolding word_codec num word_sound bits
word_ok v = and_true (ltb v (2 ^ 64))

module _ (e : Refusal) (tag : ℕ → Bool) (fits : (t : ℕ) → tag t ≡ true → t < 256 ^ 1) where
  cell_ok : (c : Cell) → (cell_codec e tag).ok c ≡ tag c.tag && word_sound c.word
  unfolding cell_codec via seq
  cell_ok c = ap₂ ◌&&◌ (num_ok 1 _ tag fits c.tag) (word_ok c.word)

-- the queues of the processes ascend from number `before` on
unfoldable pub ascends : (before : ℕ) → List ℕ → Bool
ascends before [] = true
ascends before (k ∷ ks) = leb before k && ascends k ks

byte_fits : (rows : List Row) (b : ℕ) → byte_sound rows b ≡ true → b < 256 ^ 1
unfolding byte_sound
byte_fits rows b g = omega (arith, ltb-true b 32 (and_left (ltb b 32) (has_row (b % 16) rows) g))

module _ (rows : List Row) where
  process_ok : (before : ℕ) (p : Process)
      → (process_codec rows before).ok p ≡ pt_sound p.pt && ((leb before (process_queue p) && byte_sound rows p.task) && psw_sound p.psw)
  unfolding process_codec via seq pt_sound
  process_ok before p =
      ap₂ ◌&&◌ (num_ok 1 _ pt_sound (λ v g. omega (arith, ltb-true v 64 g)) p.pt)
      (ap₂ ◌&&◌
      (num_ok 1 _ (λ b. leb before (queue_of_byte b) && byte_sound rows b)
      (λ b g. byte_fits rows b (and_right (leb before (queue_of_byte b)) (byte_sound rows b) g)) p.task)
      (num_ok 8 _ psw_sound psw_fits p.psw))

-- ---- sections

module _ {H S A : Type 0} (head : Codec H) (c : S → Codec A) (next : S → A → S) where
  section_ok : (w most : ℕ) → most < 256 ^ w → (s : S) (h : H) (xs : List A)
      → (section head c next w most s).ok (h, xs) ≡ leb (length xs) most && (head.ok h && ok_many c next s xs)
  unfolding section count
  section_ok w most lt s h xs =
      ap (λ (b : Bool). b && (head.ok h && ok_many c next s xs))
      (num_ok w CountOverLimit (λ n. leb n most) (λ n g. omega (arith, leb-true n most g)) (length xs))

list_section_ok : {S A : Type 0} (c : S → Codec A) (next : S → A → S) (w most : ℕ) → most < 256 ^ w → (s : S) (xs : List A)
    → (list_section c next w most s).ok xs ≡ leb (length xs) most && ok_many c next s xs
unfolding list_section via no_header
list_section_ok c next w most lt s xs = section_ok no_header c next w most lt s tt xs

rows_ok : (before : ℕ) (rs : List Row) → ok_many row_codec row_task before rs ≡ rows_sound before rs
unfolding ok_many rows_sound
rows_ok before [] = refl
rows_ok before (r ∷ rs) = ap₂ ◌&&◌ (row_ok before r) (rows_ok r.task rs)

-- rows in ascending number, 1 to 7, are at most 7
rows_few : (before : ℕ) (rs : List Row) → before ≤ 7 → rows_sound before rs ≡ true → before + length rs ≤ 7
unfolding rows_sound row_sound task_sound
rows_few before [] h e = omega arith
rows_few before (r ∷ rs) h e =
    let u = both (both (both (ltb-true before r.task) (leb-true r.task 7)) (λ k. k)) (λ k. k) e in
    let n = rows_few r.task rs u.0.0.1 u.1 in
    omega (arith, u.0.0.0)

tasks_ok : (rs : List Row) → tasks_codec.ok rs ≡ rows_sound 0 rs
unfolding tasks_codec
tasks_ok rs =
    list_section_ok row_codec row_task 1 7 (omega arith) 0 rs
    ∙ ap (λ (b : Bool). leb (length rs) 7 && b) (rows_ok 0 rs)
    ∙ and_implied (leb (length rs) 7) (rows_sound 0 rs) (λ e. le-leb (length rs) 7 (omega (arith, rows_few 0 rs (omega arith) e)))

many_words : (l : List ℕ) → ok_many (λ _. word_codec) no_state tt l ≡ every word_sound l
unfolding ok_many every
many_words [] = refl
many_words (v ∷ l) = ap₂ ◌&&◌ (word_ok v) (many_words l)

words_ok : (w most : ℕ) → most < 256 ^ w → (l : List ℕ) → (words_codec w most).ok l ≡ words_sound most l
unfolding words_codec uniform_section words_sound
words_ok w most lt l = list_section_ok (λ _. word_codec) no_state w most lt tt l ∙ ap (λ (b : Bool). leb (length l) most && b) (many_words l)

module _ (e : Refusal) (tag : ℕ → Bool) (fits : (t : ℕ) → tag t ≡ true → t < 256 ^ 1) where
  many_cells : (l : List Cell) → ok_many (λ _. cell_codec e tag) no_state tt l ≡ every tag (map tag_of l) && every word_sound (map word_of l)
  unfolding ok_many every
  many_cells [] = refl
  many_cells (c ∷ l) = ap₂ ◌&&◌ (cell_ok e tag fits c) (many_cells l) ∙ and_cross (tag c.tag) (word_sound c.word) (every tag (map tag_of l)) (every word_sound (map word_of l))

  cells_ok : (w most : ℕ) → most < 256 ^ w → (l : List Cell) → (cells_codec e tag w most).ok l ≡ memory_sound most tag (memory_of l)
  unfolding cells_codec uniform_section memory_sound words_sound memory_of
  cells_ok w most lt l =
      rw (eq-eqb (length (map tag_of l)) (length (map word_of l)) (length-map l tag_of ∙ sym (length-map l word_of)), length-map l word_of)
      (list_section_ok (λ _. cell_codec e tag) no_state w most lt tt l
      ∙ ap (λ (b : Bool). leb (length l) most && b) (many_cells l)
      ∙ and_turn (leb (length l) most) (every tag (map tag_of l)) (every word_sound (map word_of l)))

abbrev pub task_of : Process → ℕ
task_of p = p.task

abbrev pub psw_of : Process → ℕ
psw_of p = p.psw

-- what the processes pass
pub record PassedAll (rows : List Row) (f : ℕ) (ps : List Process) : Type 0 where
  pub few : length ps ≤ 64
  pub flag : flag_sound f ≡ true
  pub pts : every pt_sound (map pt_of ps) ≡ true
  pub ascending : ascends 0 (map process_queue ps) ≡ true
  pub tasks : every (byte_sound rows) (map task_of ps) ≡ true
  pub psws : every psw_sound (map psw_of ps) ≡ true

module _ (rows : List Row) where
  many_processes : (before : ℕ) (ps : List Process)
      → ok_many (process_codec rows) queue_after before ps
      ≡ every pt_sound (map pt_of ps) && ((ascends before (map process_queue ps) && every (byte_sound rows) (map task_of ps)) && every psw_sound (map psw_of ps))
  unfolding ok_many every ascends
  many_processes before [] = refl
  many_processes before (p ∷ ps) =
      ap₂ ◌&&◌ (process_ok rows before p) (many_processes (process_queue p) ps)
      ∙ and_cross (pt_sound p.pt) _ (every pt_sound (map pt_of ps)) _
      ∙ ap (λ (b : Bool). (pt_sound p.pt && every pt_sound (map pt_of ps)) && b)
      (and_cross (leb before (process_queue p) && byte_sound rows p.task) (psw_sound p.psw) _ (every psw_sound (map psw_of ps))
      ∙ ap (λ (b : Bool). b && (psw_sound p.psw && every psw_sound (map psw_of ps)))
      (and_cross (leb before (process_queue p)) (byte_sound rows p.task) (ascends (process_queue p) (map process_queue ps)) (every (byte_sound rows) (map task_of ps))))

  processes_ok : (flag : ℕ) (ps : List Process)
      → (processes_codec rows).ok (flag, ps)
      ≡ leb (length ps) 64 && (flag_sound flag && (every pt_sound (map pt_of ps)
      && ((ascends 0 (map process_queue ps) && every (byte_sound rows) (map task_of ps)) && every psw_sound (map psw_of ps))))
  unfolding processes_codec flag_sound
  processes_ok flag ps =
      section_ok (num 1 _ flag_sound) (process_codec rows) queue_after 1 64 (omega arith) 0 flag ps
      ∙ ap (λ (b : Bool). leb (length ps) 64 && b)
      (ap₂ ◌&&◌ (num_ok 1 _ flag_sound (λ f g. omega (arith, leb-true f 1 g)) flag) (many_processes 0 ps))

  processes_pass : (flag : ℕ) (ps : List Process) → (processes_codec rows).ok (flag, ps) ≡ true → PassedAll rows flag ps
  processes_pass flag ps h =
      let u = both (leb-true (length ps) 64) (both (λ k. k) (both (λ k. k) (both (both (λ k. k) (λ k. k)) (λ k. k)))) (sym (processes_ok flag ps) ∙ h) in
      record { few = u.0; flag = u.1.0; pts = u.1.1.0; ascending = u.1.1.1.0.0; tasks = u.1.1.1.0.1; psws = u.1.1.1.1 }

  pass_processes : (flag : ℕ) (ps : List Process) → PassedAll rows flag ps → (processes_codec rows).ok (flag, ps) ≡ true
  pass_processes flag ps p =
      processes_ok flag ps
      ∙ also (le-leb (length ps) 64 p.few) (also p.flag (also p.pts (also (also p.ascending p.tasks) p.psws)))

-- ---- the whole

-- what a value of the image's format passes
pub record PassedImage (i : Image) : Type 0 where
  pub rows : rows_sound 0 i.rows ≡ true
  pub processes : PassedAll i.rows i.flag i.processes
  pub constants : memory_sound most_constants quality_sound (memory_of i.constants) ≡ true
  pub registers : memory_sound most_registers tag_sound (memory_of i.registers) ≡ true
  pub program : words_sound most_program i.program ≡ true
  pub data_words : memory_sound most_data state_sound (memory_of i.data_words) ≡ true

constants_ok : (l : List Cell) → (cells_codec ConstantField quality_sound 2 most_constants).ok l ≡ memory_sound most_constants quality_sound (memory_of l)
constants_ok = cells_ok ConstantField quality_sound quality_fits 2 most_constants (omega arith)

registers_ok : (l : List Cell) → (cells_codec CellField tag_sound 2 most_registers).ok l ≡ memory_sound most_registers tag_sound (memory_of l)
registers_ok = cells_ok CellField tag_sound tag_fits 2 most_registers (omega arith)

program_ok : (l : List ℕ) → (words_codec 4 most_program).ok l ≡ words_sound most_program l
program_ok = words_ok 4 most_program (omega arith)

data_words_ok : (l : List Cell) → (cells_codec CellField state_sound 4 most_data).ok l ≡ memory_sound most_data state_sound (memory_of l)
data_words_ok = cells_ok CellField state_sound state_fits 4 most_data (omega arith)

pub image_passes : (i : Image) → image_codec.ok i ≡ true → PassedImage i
unfolding image_codec via seq
image_passes i h =
    let u =
    both (λ e. sym (tasks_ok i.rows) ∙ e)
    (both (λ e. e)
    (both (λ e. sym (constants_ok i.constants) ∙ e)
    (both (λ e. sym (registers_ok i.registers) ∙ e)
    (both (λ e. sym (program_ok i.program) ∙ e) (λ e. sym (data_words_ok i.data_words) ∙ e))))) h in
    record {
      rows = u.0;
      processes = processes_pass i.rows i.flag i.processes u.1.0;
      constants = u.1.1.0;
      registers = u.1.1.1.0;
      program = u.1.1.1.1.0;
      data_words = u.1.1.1.1.1;
    }

pub passes_image : (i : Image) → PassedImage i → image_codec.ok i ≡ true
unfolding image_codec via seq
passes_image i p =
    also (tasks_ok i.rows ∙ p.rows)
    (also (pass_processes i.rows i.flag i.processes p.processes)
    (also (constants_ok i.constants ∙ p.constants)
    (also (registers_ok i.registers ∙ p.registers)
    (also (program_ok i.program ∙ p.program) (data_words_ok i.data_words ∙ p.data_words)))))
