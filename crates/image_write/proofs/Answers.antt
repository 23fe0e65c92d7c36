-- What the sizes of a sound state are, how long its image is, and the three answers of a write.
use Rattle.std.proofs.Common.{Ok, Err}
use Prim.Native.Nat.{ℕ, min, ◌+◌, ◌≤◌, ◌<◌}
use mathlib.Core.Path.{◌≡◌, sym, ap, ◌∙◌}
use mathlib.Core.Bool.{Bool, true, false}
use mathlib.Core.List.{List, ◌++◌}
use native.Mathlib.Nat.{zero-add}
use native.Mathlib.Omega.{arith}
use lib.ListN.{length, take, drop, length-append}
use lib.Seq.{length-take-le}
use lib.Dec.{eqb}
use borrow.Author.Tests.{eqb-true, leb-true, ltb-true, lt-ltb, le-ltb}
use Rattle.window.specs.Limits.{most_constants, most_registers, most_program, most_data}
use Rattle.word.proofs.Laws.Bools.{and_left, and_right}
use Rattle.window.specs.Memories.{Memory}
use Rattle.refusal.specs.declared.Refusal.TheVariants.{ShortBuffer, UnsoundState}
use Rattle.step.specs.declared.ProcessTable.{ProcessTable}
use Rattle.step.specs.Queues.{occ, live_pts, live_total}
use Rattle.step.specs.State.{State}
use Rattle.step.specs.Soundness.{every, distinct, pt_sound, words_sound, memory_sound}
use Rattle.step.proofs.Laws.Occurrences.{length_once}
use Rattle.step.proofs.Laws.Every.{once_of, every_at}
use Rattle.step.proofs.Laws.Sound.{sound_parts}
use Rattle.step.proofs.Laws.Counted.{live_counted}
use Rattle.image.specs.Image.{encode, image_length}
use Rattle.image_bytes.specs.Code.Writing.{laid, put_at}
use Rattle.image_bytes.specs.Laws.Laid.{put_fits}
use Rattle.step_soundness.proofs.Seeing.{zero_of}
use Rattle.step_soundness.specs.Code.Held.{state_in}
use Rattle.library.specs.declared.Sizes.{Sizes}
use Rattle.library.specs.declared.Rows.{Rows}
use Rattle.library.specs.Buffers.{Buffers, fields_in}
use Rattle.library.specs.Calls.{unless, leaving, or_else, state_refused, state_refusal, output_refusal, write_refusal, write_answer, write_leaves}
use Rattle.library.specs.Promises.{write_answered, WritePromise}
use Rattle.library.proofs.Laws.InPlace.{fields_sized}
use Rattle.library.proofs.Laws.Places.{Fitting, fitting}
use Rattle.library.proofs.Laws.Held.{before, lengths, room_held, accepted, accepted_live}
use Rattle.library.proofs.Laws.Numbers.{write_promise}
use Rattle.library_state.specs.Laws.Cut.{cut, cut_fields}
use Rattle.image_write.specs.Code.Bytes.{image_bytes}
use Rattle.image_write.proofs.Whole.{image_bytes_lem}
use Rattle.image_write.proofs.Sections.{tasks_size, processes_size, words_size, cells_size}

-- ---- the sizes of a sound state

-- as many tags as words, and not too many
pub record Few (most : ℕ) (m : Memory) : Type 0 where
  pub paired : length m.tags ≡ length m.words
  pub few : length m.words ≤ most

words_few : (most : ℕ) (l : List ℕ) → words_sound most l ≡ true → length l ≤ most
unfolding words_sound
words_few most l e = leb-true (length l) most (and_left _ _ e)

memory_few : (most : ℕ) (tag : ℕ → Bool) (m : Memory) → memory_sound most tag m ≡ true → Few most m
unfolding memory_sound
memory_few most tag m e = record {
  paired = eqb-true (length m.tags) (length m.words) (and_left _ _ e);
  few = words_few most m.words (and_right (every tag m.tags) _ (and_right (eqb (length m.tags) (length m.words)) _ e));
}

-- PTs below 64 that each stand once are at most 64
pts_few : (pts : List ℕ) → distinct pts ≡ true → every pt_sound pts ≡ true → length pts ≤ 64
unfolding pt_sound
pts_few pts d e =
    length_once 64 pts (once_of pts d) (λ p h. zero_of (occ p pts) (λ n. let k : p < 64 = ltb-true p 64 (every_at pt_sound pts e p n) in omega arith))

-- the sizes of a sound state, and its processes: at most so many of each
pub record Small (n : Sizes) (t : ProcessTable) : Type 0 where
  pub rows : n.rows ≤ 7
  pub processes : length (live_pts t.users.queues) ≤ 64
  pub constants : n.constants ≤ most_constants
  pub registers : n.registers ≤ most_registers
  pub program : n.program ≤ most_program
  pub data_words : n.data_words ≤ most_data

-- ---- a state in buffers that isn't refused

-- two slices cut to one size have as many elements
as_many : (k : ℕ) (l m : List ℕ) → k ≤ length l → k ≤ length m → length (take k l) ≡ length (take k m)
as_many k l m h i = length-take-le k l h ∙ sym (length-take-le k m i)

module _ (v : Rows) (table : ProcessTable) (constant_tags constant_words register_tags register_words program data_tags data_words : List ℕ) (n : Sizes)
    (seven : length v.at ≡ 7)
    (fine : state_refused n (before v table constant_tags constant_words register_tags register_words program data_tags data_words) ≡ false) where
  abbrev held : Buffers
  held = before v table constant_tags constant_words register_tags register_words program data_tags data_words

  pub fitted : Fitting n (lengths v table constant_tags constant_words register_tags register_words program data_tags data_words)
  fitted =
      fitting n (lengths v table constant_tags constant_words register_tags register_words program data_tags data_words)
      (rw (room_held v table constant_tags constant_words register_tags register_words program data_tags data_words seven) at (accepted n held fine).0)

  few : n.rows ≤ min v.n 7
  few = fitted.rows

  pub small : Small n table
  unfolding fields_in
  small =
      let p = sound_parts (fields_in n held) (accepted n held fine).1 in
      let m = p.memories in
      let z = fields_sized n held (accepted n held fine).0 in
      record {
        rows = omega (arith, few);
        processes = pts_few (live_pts table.users.queues) p.table.once p.table.small;
        constants = omega (arith, z.constant_words, memory_few most_constants _ (fields_in n held).constants m.constants);
        registers = omega (arith, z.register_words, memory_few most_registers _ (fields_in n held).registers m.registers);
        program = omega (arith, z.program, words_few most_program (take n.program program) m.program);
        data_words = omega (arith, z.data_words, memory_few most_data _ (fields_in n held).data_words m.data_words);
      }

  -- the total that is stored is the number of the processes
  pub counted : table.users.count ≡ length (live_pts table.users.queues)
  unfolding live_total
  counted = (live_counted table.users (accepted_live n held fine)).1

  -- the slices that are cut to the sizes
  abbrev pub given : State
  given = cut v table constant_tags constant_words register_tags register_words program data_tags data_words n

  pub constants_cut : length (take n.constants constant_tags) ≡ length (take n.constants constant_words)
  constants_cut = as_many n.constants constant_tags constant_words fitted.constant_tags fitted.constant_words

  pub tags_cut : length (take n.registers register_tags) ≡ length (take n.registers register_words)
  tags_cut = as_many n.registers register_tags register_words fitted.register_tags fitted.register_words

  pub data_cut : length (take n.data_words data_tags) ≡ length (take n.data_words data_words)
  data_cut = as_many n.data_words data_tags data_words fitted.data_tags fitted.data_words

  -- their image is that of the state
  pub bytes : encode (fields_in n held) ≡ image_bytes given
  unfolding state_in
  bytes =
      ap encode (sym (cut_fields v table constant_tags constant_words register_tags register_words program data_tags data_words n (omega (arith, few))))
      ∙ image_bytes_lem given constants_cut tags_cut data_cut

  -- how long it is
  pub image_size : (m : ℕ) → m ≡ length (live_pts table.users.queues)
      → length (encode (fields_in n held))
      ≡ image_length n.rows m n.constants n.registers n.program n.data_words
  unfolding image_bytes state_in
  image_size m k =
      ap length bytes
      ∙ simp (
        length-append,
        tasks_size (take n.rows v.at),
        length-take-le n.rows v.at (omega (arith, few, seven)),
        processes_size table.users.psw table.users.flag table.users.queues m k,
        words_size,
        cells_size 2 (take n.constants constant_words) (take n.constants constant_tags) constants_cut,
        cells_size 2 (take n.registers register_words) (take n.registers register_tags) tags_cut,
        cells_size 4 (take n.data_words data_words) (take n.data_words data_tags) data_cut,
        length-take-le n.constants constant_words fitted.constant_words,
        length-take-le n.registers register_words fitted.register_words,
        length-take-le n.program program fitted.program,
        length-take-le n.data_words data_words fitted.data_words,
      )
      (omega arith)

-- ---- the answers

module _ (n : Sizes) (b : Buffers) (output : List ℕ) where
  pub refuses_8 : state_refused n b ≡ true → WritePromise n b (Err UnsoundState) output output
  unfolding write_answered write_answer write_refusal write_leaves state_refusal or_else unless leaving
  refuses_8 e = write_promise (rw e) (rw e)

  module _ (e : state_refused n b ≡ false) where
    pub refuses_7 : length output < length (encode (fields_in n b)) → WritePromise n b (Err ShortBuffer) output output
    unfolding write_answered write_answer write_refusal write_leaves state_refusal output_refusal or_else unless leaving
    refuses_7 h =
        let q = lt-ltb (length output) (length (encode (fields_in n b))) h in
        write_promise (rw (e, q)) (rw (e, q))

    pub writes : {r : ℕ} {l : List ℕ} → length (encode (fields_in n b)) ≤ length output → r ≡ length (encode (fields_in n b))
        → l ≡ put_at 0 (encode (fields_in n b)) output → WritePromise n b (Ok r) output l
    unfolding write_answered write_answer write_refusal write_leaves state_refusal output_refusal or_else unless leaving laid
    writes h p i =
        let q = le-ltb (length output) (length (encode (fields_in n b))) h in
        let f : 0 + length (encode (fields_in n b)) ≤ length output = omega arith in
        let o =
        i ∙ sym (put_fits 0 (encode (fields_in n b)) output f) ∙ ap (λ (k : ℕ). encode (fields_in n b) ++ drop k output) (zero-add (length (encode (fields_in n b)))) in
        write_promise (rw (e, q, p)) (rw (e, q) o)
