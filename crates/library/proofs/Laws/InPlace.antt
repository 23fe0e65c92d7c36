-- Elements in the first places of a buffer: they are found there again, and what lies beyond them stays.
use Rattle.std.specs.Prelude.{ℕ, ◌≡◌, refl, true, List, ◌++◌, length, take, drop}
use Rattle.std.proofs.Common.{sym, ap, ◌∙◌, subst, length-take-le, Option, None}
use Rattle.std.proofs.lemmas.List.{length-map}
use Rattle.std.proofs.Math.Seq.{take-append_seam, drop-append_seam}
use Rattle.refusal.specs.declared.Refusal.{Refusal}
use Rattle.window.specs.Memories.{tag_of, word_of}
use Rattle.step.specs.State.{State}
use Rattle.operation.specs.Decide.{decide}
use Rattle.step.specs.Step.{item_by, item}
use Rattle.step.proofs.Laws.Lengths.{SameLengths}
use Rattle.step.proofs.Laws.Item.{item_lengths}
use Rattle.run.specs.Run.{run}
use Rattle.run.proofs.Laws.Run.{run_lengths}
use Rattle.image.specs.Image.{Image, memory_of, state_of, good, decode}
use Rattle.image.specs.Fields.{over}
use Rattle.library.specs.declared.Sizes.{Sizes}
use Rattle.library.specs.Buffers.{Buffers, room_of, fits, sizes_of, fields_in, spare_in, holding}
use Rattle.library.specs.Calls.{unless, leaving, decoded_refusal, read_refusal, decoded_answer, decoded_leaves, read_leaves}
use Rattle.library.proofs.Laws.Places.{fitting}

module _ {A : Type 0} where
  over_take : (n : ℕ) (xs l : List A) → length xs ≡ n → take n (over xs l) ≡ xs
  over_take n xs l e = subst (λ (k : ℕ). take k (over xs l) ≡ xs) e (take-append_seam xs (drop (length xs) l))

  over_drop : (n : ℕ) (xs l : List A) → length xs ≡ n → drop n (over xs l) ≡ drop n l
  over_drop n xs l e = subst (λ (k : ℕ). drop k (over xs l) ≡ drop k l) e (drop-append_seam xs (drop (length xs) l))

  -- elements over others of the same length
  over_twice : (n : ℕ) (xs ys l : List A) → length xs ≡ n → length ys ≡ n → over xs (over ys l) ≡ over xs l
  over_twice n xs ys l e f = ap (λ (z : List A). xs ++ z) (over_drop (length xs) ys l (f ∙ sym e))

-- a state with these counts
pub record Sized (n : Sizes) (s : State) : Type 0 where
  pub rows : length s.rows ≡ n.rows
  pub constant_tags : length s.constants.tags ≡ n.constants
  pub constant_words : length s.constants.words ≡ n.constants
  pub register_tags : length s.registers.tags ≡ n.registers
  pub register_words : length s.registers.words ≡ n.registers
  pub program : length s.program ≡ n.program
  pub data_tags : length s.data_words.tags ≡ n.data_words
  pub data_words : length s.data_words.words ≡ n.data_words

pub holding_spare : (n : Sizes) (s : State) (b : Buffers) → Sized n s → spare_in n (holding s b) ≡ spare_in n b
unfolding spare_in holding
holding_spare n s b z =
    rw (
      over_drop n.rows s.rows b.rows z.rows,
      over_drop n.constants s.constants.tags b.constant_tags z.constant_tags,
      over_drop n.constants s.constants.words b.constant_words z.constant_words,
      over_drop n.registers s.registers.tags b.register_tags z.register_tags,
      over_drop n.registers s.registers.words b.register_words z.register_words,
      over_drop n.program s.program b.program z.program,
      over_drop n.data_words s.data_words.tags b.data_tags z.data_tags,
      over_drop n.data_words s.data_words.words b.data_words z.data_words,
    )

pub holding_fields : (n : Sizes) (s : State) (b : Buffers) → Sized n s → fields_in n (holding s b) ≡ s
unfolding fields_in holding
holding_fields n s b z =
    rw (
      over_take n.rows s.rows b.rows z.rows,
      over_take n.constants s.constants.tags b.constant_tags z.constant_tags,
      over_take n.constants s.constants.words b.constant_words z.constant_words,
      over_take n.registers s.registers.tags b.register_tags z.register_tags,
      over_take n.registers s.registers.words b.register_words z.register_words,
      over_take n.program s.program b.program z.program,
      over_take n.data_words s.data_words.tags b.data_tags z.data_tags,
      over_take n.data_words s.data_words.words b.data_words z.data_words,
    )

-- a state put over another of the same sizes
pub holding_twice : (n : Sizes) (s s' : State) (b : Buffers) → Sized n s → Sized n s' → holding s (holding s' b) ≡ holding s b
unfolding holding
holding_twice n s s' b z z' =
    rw (
      over_twice n.rows s.rows s'.rows b.rows z.rows z'.rows,
      over_twice n.constants s.constants.tags s'.constants.tags b.constant_tags z.constant_tags z'.constant_tags,
      over_twice n.constants s.constants.words s'.constants.words b.constant_words z.constant_words z'.constant_words,
      over_twice n.registers s.registers.tags s'.registers.tags b.register_tags z.register_tags z'.register_tags,
      over_twice n.registers s.registers.words s'.registers.words b.register_words z.register_words z'.register_words,
      over_twice n.program s.program s'.program b.program z.program z'.program,
      over_twice n.data_words s.data_words.tags s'.data_words.tags b.data_tags z.data_tags z'.data_tags,
      over_twice n.data_words s.data_words.words s'.data_words.words b.data_words z.data_words z'.data_words,
    )

-- ---- counts that fit

pub fields_sized : (n : Sizes) (b : Buffers) → fits n (room_of b) ≡ true → Sized n (fields_in n b)
unfolding room_of fields_in
fields_sized n b e =
    let f = fitting n (room_of b) e in
    record {
      rows = length-take-le n.rows b.rows f.rows;
      constant_tags = length-take-le n.constants b.constant_tags f.constant_tags;
      constant_words = length-take-le n.constants b.constant_words f.constant_words;
      register_tags = length-take-le n.registers b.register_tags f.register_tags;
      register_words = length-take-le n.registers b.register_words f.register_words;
      program = length-take-le n.program b.program f.program;
      data_tags = length-take-le n.data_words b.data_tags f.data_tags;
      data_words = length-take-le n.data_words b.data_words f.data_words;
    }

pub lengths_sized : (n : Sizes) (s s' : State) → Sized n s → SameLengths s' s → Sized n s'
lengths_sized n s s' z k = record {
  rows = k.rows ∙ z.rows;
  constant_tags = k.constant_tags ∙ z.constant_tags;
  constant_words = k.constant_words ∙ z.constant_words;
  register_tags = k.register_tags ∙ z.register_tags;
  register_words = k.register_words ∙ z.register_words;
  program = k.program ∙ z.program;
  data_tags = k.data_tags ∙ z.data_tags;
  data_words = k.data_words ∙ z.data_words;
}

-- a state that is read has as many tags as words
pub read_sized : (i : Image) → Sized (sizes_of (state_of i)) (state_of i)
unfolding sizes_of state_of memory_of
read_sized i = record {
  rows = refl;
  constant_tags = length-map i.constants tag_of ∙ sym (length-map i.constants word_of);
  constant_words = refl;
  register_tags = length-map i.registers tag_of ∙ sym (length-map i.registers word_of);
  register_words = refl;
  program = refl;
  data_tags = length-map i.data_words tag_of ∙ sym (length-map i.data_words word_of);
  data_words = refl;
}

-- ---- a run and a step keep them

pub run_sized : (n : Sizes) (b : Buffers) (schedule : List ℕ) → fits n (room_of b) ≡ true → Sized n (run schedule (fields_in n b)).state
run_sized n b schedule e = lengths_sized n (fields_in n b) (run schedule (fields_in n b)).state (fields_sized n b e) (run_lengths schedule (fields_in n b))

pub step_sized : (n : Sizes) (b : Buffers) (t : ℕ) → fits n (room_of b) ≡ true → Sized n (item t (fields_in n b)).state
unfolding item
step_sized n b t e = lengths_sized n (fields_in n b) (item_by decide t (fields_in n b)).state (fields_sized n b e) (item_lengths decide t (fields_in n b))

-- a reading that isn't refused leaves the buffers holding the state that its image is
pub held_by_read : (b : Buffers) (bytes : List ℕ) (i : Image) → decode bytes ≡ good i → read_refusal (room_of b) bytes ≡ None
    → read_leaves b bytes ≡ holding (state_of i) b
unfolding read_refusal read_leaves decoded_leaves decoded_answer unless leaving
held_by_read b bytes i d e =
    ap (decoded_leaves b) d
    ∙ ap (λ (o : Option Refusal). leaving (unless o (sizes_of (state_of i))) b (holding (state_of i) b)) (sym (ap (decoded_refusal (room_of b)) d) ∙ e)
