-- The fields of a state pass the tests of an image exactly if the state is sound, where its arrays have the machine's lengths.
use Rattle.std.specs.Prelude.{ℕ, suc, ◌+◌, ◌≤◌, ◌<◌, ◌≡◌, Bool, ◌||◌, length, get_or}
use Rattle.std.proofs.Math.Path.{refl, sym, ap, ap₂}
use Rattle.std.proofs.Common.{◌∙◌, arith, eqb-true, le-leb}
use Rattle.std.proofs.Math.Bool.{true, false, ◌&&◌}
use mathlib.Core.List.{List, [], ◌∷◌, ◌++◌, map, map-id}
use Rattle.std.proofs.lemmas.List.{length-map}
use Rattle.std.proofs.Math.ListN.{length-append}
use Rattle.std.proofs.Math.Dec.{eqb, eqb-suc-zero}
use Rattle.window.specs.Limits.{most_constants, most_registers}
use Rattle.window.specs.declared.Row.{Row}
use Rattle.window.specs.Memories.{Memory, memory, word_of}
use Rattle.word.proofs.Laws.Bools.{or_right, and_left}
use Rattle.word.proofs.Laws.Conjunctions.{also, both}
use Rattle.step.specs.declared.Queue.{Queue}
use Rattle.step.specs.Queues.{list_of, live_pts}
use Rattle.step.specs.State.{State, psws_of}
use Rattle.step.specs.Soundness.{every, distinct, may_hold, queue_shaped, queues_sound, pt_sound, total_sound, memory_sound, windows_sound, live_sound, sound}
use Rattle.window.specs.Sound.{quality_sound, tag_sound, state_sound}
use Rattle.word.specs.Fields.{psw_sound}
use Rattle.step.proofs.Laws.Occurrences.{length_once}
use Rattle.step.proofs.Laws.Queues.{length_list}
use Rattle.step.proofs.Laws.Sound.{sound_parts, sound_whole, tidy_of}
use Rattle.image.specs.declared.Process.{Process}
use Rattle.image.specs.Image.{queue_of_byte, byte_of_queue, byte_sound, process_queue, pt_of, processes_in, processes_from, cells_of, memory_of, image_of}
use Rattle.image.proofs.Laws.Conjoined.{and_true, and_cross}
use Rattle.image.proofs.Laws.Passed.{task_of, psw_of, ascends}
use Rattle.image.proofs.Laws.Accepted.{Accepted}
use Rattle.image.proofs.Laws.Table.{places_full, byte_number, byte_holds}

-- ---- memories

memory_again : (tags words : List ℕ) → length tags ≡ length words → memory_of (cells_of tags words) ≡ memory tags words
unfolding memory_of cells_of
memory_again [] [] h = refl
memory_again [] (w ∷ words) h = absurd (omega arith)
memory_again (t ∷ tags) [] h = absurd (omega arith)
memory_again (t ∷ tags) (w ∷ words) h = ap (λ (m : Memory). memory (t ∷ m.tags) (w ∷ m.words)) (memory_again tags words (omega arith))

length_cells : (tags words : List ℕ) → length tags ≡ length words → length (cells_of tags words) ≡ length words
unfolding memory_of
length_cells tags words h = sym (length-map (cells_of tags words) word_of) ∙ ap (λ (m : Memory). length m.words) (memory_again tags words h)

-- ---- PTs and PSWs: a number of each process that its PT gives

module _ (psw : List ℕ) (g : ℕ → ℕ) (f : Process → ℕ) (is : (t p : ℕ) → f (record { pt = p; task = byte_of_queue t; psw = get_or psw p 0 }) ≡ g p) where
  map_in : (t : ℕ) (pts : List ℕ) (ps : List Process) (l : List ℕ) → map f ps ≡ map g l → map f (processes_in psw t pts ++ ps) ≡ map g (pts ++ l)
  unfolding processes_in
  map_in t [] ps l h = h
  map_in t (p ∷ pts) ps l h = ap₂ {A = ℕ} {B = List ℕ} {C = List ℕ} (λ x xs. x ∷ xs) (is t p) (map_in t pts ps l h)

  map_from : (t : ℕ) (qs : List Queue) → map f (processes_from psw t qs) ≡ map g (live_pts qs)
  unfolding processes_from live_pts
  map_from t [] = refl
  map_from t (q ∷ qs) = map_in t (list_of q) (processes_from psw (suc t) qs) (live_pts qs) (map_from (suc t) qs)

pts_from : (psw : List ℕ) (t : ℕ) (qs : List Queue) → map pt_of (processes_from psw t qs) ≡ live_pts qs
pts_from psw t qs = map_from psw (λ p. p) pt_of (λ t p. refl) t qs ∙ map-id (live_pts qs)

psws_from : (psw : List ℕ) (t : ℕ) (qs : List Queue) → map psw_of (processes_from psw t qs) ≡ psws_of psw (live_pts qs)
unfolding psws_of
psws_from psw t qs = map_from psw (λ p. get_or psw p 0) psw_of (λ t p. refl) t qs

pub length_from : (psw : List ℕ) (t : ℕ) (qs : List Queue) → length (processes_from psw t qs) ≡ length (live_pts qs)
length_from psw t qs = sym (length-map (processes_from psw t qs) pt_of) ∙ ap length (pts_from psw t qs)

-- ---- queues

module _ (psw : List ℕ) where
  ascends_in : (b k : ℕ) (pts : List ℕ) (ps : List Process) → k < 32 → b ≤ k → ((c : ℕ) → c ≤ k → ascends c (map process_queue ps) ≡ true)
      → ascends b (map process_queue (processes_in psw k pts ++ ps)) ≡ true
  unfolding processes_in ascends
  ascends_in b k [] ps l h f = f b h
  ascends_in b k (p ∷ pts) ps l h f =
      let e = byte_number k l in
      also (le-leb b _ (omega (arith, e, h))) (ascends_in (queue_of_byte (byte_of_queue k)) k pts ps l (omega (arith, e)) f)

  ascends_from : (b k : ℕ) (qs : List Queue) → k + length qs ≤ 32 → b ≤ k → ascends b (map process_queue (processes_from psw k qs)) ≡ true
  unfolding processes_from ascends
  ascends_from b k [] l h = refl
  ascends_from b k (q ∷ qs) l h =
      ascends_in b k (list_of q) (processes_from psw (suc k) qs) (omega (arith, l)) h (λ c m. ascends_from c (suc k) qs (omega (arith, l)) (omega (arith, m)))

module _ (psw : List ℕ) (rows : List Row) where
  rows_in_lem : (k : ℕ) (pts : List ℕ) (ps : List Process)
      → every (byte_sound rows) (map task_of (processes_in psw k pts ++ ps)) ≡ (eqb (length pts) 0 || byte_sound rows (byte_of_queue k)) && every (byte_sound rows) (map task_of ps)
  unfolding processes_in every
  rows_in_lem k [] ps = refl
  rows_in_lem k (p ∷ pts) ps =
      ap (λ (b : Bool). byte_sound rows (byte_of_queue k) && b) (rows_in_lem k pts ps)
      ∙ go (byte_sound rows (byte_of_queue k)) (eqb (length pts) 0) (every (byte_sound rows) (map task_of ps))
      ∙ ap (λ (b : Bool). (b || byte_sound rows (byte_of_queue k)) && every (byte_sound rows) (map task_of ps)) (sym (eqb-suc-zero (length pts)))
    where
      go : (a b c : Bool) → a && ((b || a) && c) ≡ a && c
      go true b c = ap (λ (x : Bool). x && c) (or_right b true refl)
      go false b c = refl

  -- the queues are in arrays of 64, and the task bytes of their processes are sound
  queues_fields : (k : ℕ) (qs : List Queue) → k + length qs ≤ 16 → length (live_pts qs) ≤ 64
      → queues_sound rows k qs ≡ places_full qs && every (byte_sound rows) (map task_of (processes_from psw k qs))
  unfolding queues_sound queue_shaped processes_from live_pts every
  queues_fields k [] i h = refl
  queues_fields k (q ∷ qs) i h =
      let n = length-append (list_of q) (live_pts qs) in
      let l = length_list q in
      let full = eqb (length q.pts) 64 in
      let others = places_full qs in
      let has = eqb q.len 0 || may_hold rows k in
      let have = every (byte_sound rows) (map task_of (processes_from psw (suc k) qs)) in
      ap₂ ◌&&◌
      (ap (λ (b : Bool). (full && b) && has) (le-leb q.len 64 (omega arith)) ∙ ap (λ (b : Bool). b && has) (and_true full))
      (queues_fields (suc k) qs (omega (arith, i)) (omega arith))
      ∙ and_cross full has others have
      ∙ ap (λ (b : Bool). (full && others) && b)
      (ap₂ (λ (m : ℕ) (b : Bool). (eqb m 0 || b) && have) (sym l) (sym (byte_holds rows k (omega (arith, i)))) ∙ sym (rows_in_lem k (list_of q) (processes_from psw (suc k) qs)))

-- ---- the whole

-- what no image shows of a state
pub record Shape (s : State) : Type 0 where
  pub wide : length s.table.users.psw ≡ 64
  pub sixteen : length s.table.users.queues ≡ 16
  pub full : places_full s.table.users.queues ≡ true
  pub counted : live_sound s.table.users ≡ true
  pub constants : length s.constants.tags ≡ length s.constants.words
  pub registers : length s.registers.tags ≡ length s.registers.words
  pub data_words : length s.data_words.tags ≡ length s.data_words.words

paired_of : (most : ℕ) (tag : ℕ → Bool) (m : Memory) → memory_sound most tag m ≡ true → length m.tags ≡ length m.words
unfolding memory_sound
paired_of most tag m e = eqb-true (length m.tags) (length m.words) (and_left (eqb (length m.tags) (length m.words)) _ e)

-- at most 64 processes live
few_live : (s : State) → sound s ≡ true → length (live_pts s.table.users.queues) ≤ 64
few_live s e =
    let tidy = tidy_of s.rows s.table.users (sound_parts s e).table in
    length_once 64 (live_pts s.table.users.queues) tidy.once tidy.small

queues_parts : (s : State) → sound s ≡ true
    → (places_full s.table.users.queues ≡ true)
    × (every (byte_sound s.rows) (map task_of (processes_from s.table.users.psw 0 s.table.users.queues)) ≡ true)
queues_parts s e =
    both (λ k. k) (λ k. k) (sym (queues_fields s.table.users.psw s.rows 0 s.table.users.queues (omega (arith, (sound_parts s e).table.sixteen)) (few_live s e)) ∙ (sound_parts s e).table.queues)

pub shape_of : (s : State) → sound s ≡ true → Shape s
shape_of s e =
    let p = sound_parts s e in
    record {
      wide = p.table.wide;
      sixteen = p.table.sixteen;
      full = (queues_parts s e).0;
      counted = p.table.counted;
      constants = paired_of most_constants quality_sound s.constants p.memories.constants;
      registers = paired_of most_registers tag_sound s.registers p.memories.registers;
      data_words = paired_of _ state_sound s.data_words p.memories.data_words;
    }

-- ends of windows in a state and in its image
windows_same : (s : State) → Shape s
    → windows_sound (length (image_of s).registers) (length (image_of s).program) (length (image_of s).data_words) (image_of s).rows
    ≡ windows_sound (length s.registers.words) (length s.program) (length s.data_words.words) s.rows
unfolding image_of
windows_same s h =
    ap₂ (λ (m n : ℕ). windows_sound m (length s.program) n s.rows)
    (length_cells s.registers.tags s.registers.words h.registers)
    (length_cells s.data_words.tags s.data_words.words h.data_words)

constants_same : (s : State) → Shape s → memory_of (image_of s).constants ≡ s.constants
unfolding image_of
constants_same s h = memory_again s.constants.tags s.constants.words h.constants

registers_same : (s : State) → Shape s → memory_of (image_of s).registers ≡ s.registers
unfolding image_of
registers_same s h = memory_again s.registers.tags s.registers.words h.registers

data_words_same : (s : State) → Shape s → memory_of (image_of s).data_words ≡ s.data_words
unfolding image_of
data_words_same s h = memory_again s.data_words.tags s.data_words.words h.data_words

pub sound_accepted : (s : State) → sound s ≡ true → Accepted (image_of s)
unfolding image_of
sound_accepted s e =
    let p = sound_parts s e in
    let h = shape_of s e in
    let psw = s.table.users.psw in
    let qs = s.table.users.queues in
    record {
      fields = record {
        rows = p.rows;
        processes = record {
          few = omega (arith, few_live s e, length_from psw 0 qs);
          flag = p.table.flag;
          pts = ap (every pt_sound) (pts_from psw 0 qs) ∙ p.table.small;
          ascending = ascends_from psw 0 0 qs (omega (arith, p.table.sixteen)) (omega arith);
          tasks = (queues_parts s e).1;
          psws = ap (every psw_sound) (psws_from psw 0 qs) ∙ p.table.psws;
        };
        constants = ap (memory_sound most_constants quality_sound) (constants_same s h) ∙ p.memories.constants;
        registers = ap (memory_sound most_registers tag_sound) (registers_same s h) ∙ p.memories.registers;
        program = p.memories.program;
        data_words = ap (memory_sound _ state_sound) (data_words_same s h) ∙ p.memories.data_words;
      };
      after = record {
        windows = windows_same s h ∙ p.windows;
        once = ap distinct (pts_from psw 0 qs) ∙ p.table.once;
        room = ap (λ (n : ℕ). total_sound n s.table.users.flag) (length_from psw 0 qs) ∙ p.table.room;
      };
    }

pub accepted_sound : (s : State) → Shape s → Accepted (image_of s) → sound s ≡ true
unfolding image_of
accepted_sound s h a =
    let psw = s.table.users.psw in
    let qs = s.table.users.queues in
    let i = a.fields in
    let few : length (live_pts qs) ≤ 64 = omega (arith, i.processes.few, length_from psw 0 qs) in
    sound_whole s (record {
      rows = i.rows;
      table = record {
        wide = h.wide;
        sixteen = h.sixteen;
        queues = queues_fields psw s.rows 0 qs (omega (arith, h.sixteen)) few ∙ also h.full i.processes.tasks;
        once = ap distinct (sym (pts_from psw 0 qs)) ∙ a.after.once;
        small = ap (every pt_sound) (sym (pts_from psw 0 qs)) ∙ i.processes.pts;
        psws = ap (every psw_sound) (sym (psws_from psw 0 qs)) ∙ i.processes.psws;
        flag = i.processes.flag;
        room = ap (λ (n : ℕ). total_sound n s.table.users.flag) (sym (length_from psw 0 qs)) ∙ a.after.room;
        counted = h.counted;
      };
      memories = record {
        constants = ap (memory_sound most_constants quality_sound) (sym (constants_same s h)) ∙ i.constants;
        registers = ap (memory_sound most_registers tag_sound) (sym (registers_same s h)) ∙ i.registers;
        program = i.program;
        data_words = ap (memory_sound _ state_sound) (sym (data_words_same s h)) ∙ i.data_words;
      };
      windows = sym (windows_same s h) ∙ a.after.windows;
    })
