-- Words and cells: what one and what many of them are as bytes, and what checking them finds.
use Prim.Native.Nat.{ℕ, zero, suc, ◌+◌, ◌-◌, ◌*◌, ◌/◌, ◌≤◌, ◌<◌}
use Rattle.std.specs.Prelude.{◌≡◌, Bool, List, ◌∷◌, drop, Ok, Err}
use Rattle.std.proofs.Math.Path.{refl, ap}
use Rattle.std.proofs.Common.{◌∙◌}
use Rattle.std.proofs.Math.Bool.{true, false, cond}
use Rattle.std.proofs.Math.Nat.{sub-zero}
use Rattle.std.proofs.Math.Decide.{dec_lt}
use native.Mathlib.Omega.{arith}
use Rattle.std.proofs.Math.ListN.{length, length-drop}
use Rattle.std.proofs.Math.Seq.{drop-drop}
use borrow.Author.Tests.{le-ltb, lt-ltb}
use Rattle.step.specs.Soundness.{every}
use Rattle.refusal.specs.declared.Refusal.{Refusal}
use Rattle.refusal.specs.declared.Refusal.TheVariants.{InputEnds}
use Rattle.image.specs.Codec.{bind, field, num, seq, via, dec_many, no_state}
use Rattle.image.specs.Image.{word_codec, cell_codec, to_cell, from_cell, cell_length, word_length}
use Rattle.image_bytes.specs.Code.Reading.{field_at, cell_from, listed, tags_at}
use Rattle.image_bytes.specs.Code.Scanning.{Scan, scanned}
use Rattle.image_bytes.specs.Laws.Spans.{Spans, num_spans, seq_spans, via_spans}
use Rattle.image_bytes.specs.Laws.Scans.{scanned_map}

pub word_spans : Spans word_codec (field word_length) (λ _. word_length)
unfolding word_codec
word_spans = num_spans word_length _ _

pub cell_spans : (e : Refusal) (f : ℕ → Bool) → Spans (cell_codec e f) (cell_from 0) (λ _. cell_length)
unfolding cell_codec
cell_spans e f = via_spans to_cell from_cell (seq_spans (num_spans 1 e f) (λ _. word_spans))

-- ---- words

module _ (s : List ℕ) where
  abbrev words : (n p : ℕ) → Scan
  words n p = scanned (length s) (dec_many (λ _. word_codec) no_state tt n (drop p s))

  word_there : (n p : ℕ) → word_length ≤ length s - p → words (suc n) p ≡ words n (p + word_length)
  unfolding dec_many bind word_codec num
  word_there n p h =
      rw (le-ltb (length (drop p s)) word_length (rw length-drop h), drop-drop word_length p s)
      (scanned_map (length s) (dec_many (λ _. word_codec) no_state tt n (drop (p + word_length) s)) (λ xs. field_at word_length p s ∷ xs))

  pub words_whole : (n p : ℕ) → word_length * n ≤ length s - p → words n p ≡ Ok (length s - ((length s - p) - word_length * n))
  unfolding dec_many scanned
  words_whole zero p h = rw (length-drop, sub-zero)
  words_whole (suc n) p h =
      let e : (length s - (p + word_length)) - word_length * n ≡ (length s - p) - word_length * suc n = omega arith in
      word_there n p (omega arith) ∙ words_whole n (p + word_length) (omega arith) ∙ ap (λ (k : ℕ). Ok (length s - k)) e

  pub words_short : (n p : ℕ) → length s - p < word_length * n → words n p ≡ Err InputEnds
  unfolding dec_many bind word_codec num scanned
  words_short zero p h = absurd (omega arith)
  words_short (suc n) p h = go (dec_lt (length s - p) word_length) (words_short n (p + word_length))
    where
      go : Dec (length s - p < word_length) → (length s - (p + word_length) < word_length * n → words n (p + word_length) ≡ Err InputEnds) → words (suc n) p ≡ Err InputEnds
      go (yes l) more = rw (lt-ltb (length (drop p s)) word_length (rw length-drop l))
      go (no l) more = word_there n p (omega arith) ∙ more (omega arith)

-- ---- cells whose tags are to pass f, and are refused by x

module _ (x : Refusal) (f : ℕ → Bool) (s : List ℕ) where
  abbrev cells : (n p : ℕ) → Scan
  cells n p = scanned (length s) (dec_many (λ _. cell_codec x f) no_state tt n (drop p s))

  -- the tags of the first n
  abbrev tags : (n p : ℕ) → Bool
  tags n p = every f (tags_at n p s)

  cell_none : (n p : ℕ) → length s ≤ p → cells (suc n) p ≡ Err InputEnds
  unfolding dec_many bind cell_codec via seq num scanned
  cell_none n p h = rw (lt-ltb (length (drop p s)) 1 (rw length-drop (omega arith)))

  cell_bad : (n p : ℕ) → p < length s → f (field_at 1 p s) ≡ false → cells (suc n) p ≡ Err x
  unfolding dec_many bind cell_codec via seq num scanned
  cell_bad n p h g = rw (le-ltb (length (drop p s)) 1 (rw length-drop (omega arith)), g)

  cell_part : (n p : ℕ) → p < length s → length s - p < cell_length → f (field_at 1 p s) ≡ true → cells (suc n) p ≡ Err InputEnds
  unfolding dec_many bind cell_codec via seq num word_codec scanned
  cell_part n p h l g =
      rw (le-ltb (length (drop p s)) 1 (rw length-drop (omega arith)), g, drop-drop 1 p s, lt-ltb (length (drop (p + 1) s)) word_length (rw length-drop (omega arith)))

  cell_there : (n p : ℕ) → cell_length ≤ length s - p → f (field_at 1 p s) ≡ true → cells (suc n) p ≡ cells n (p + cell_length)
  unfolding dec_many bind cell_codec via seq num word_codec
  cell_there n p h g =
      let e : p + 1 + word_length ≡ p + cell_length = omega arith in
      rw (
        le-ltb (length (drop p s)) 1 (rw length-drop (omega arith)),
        g,
        drop-drop 1 p s,
        le-ltb (length (drop (p + 1) s)) word_length (rw length-drop (omega arith)),
        drop-drop word_length (p + 1) s,
        e,
      )
      (scanned_map (length s) (dec_many (λ _. cell_codec x f) no_state tt n (drop (p + cell_length) s)) (λ xs. cell_from p s ∷ xs))

  -- all n are there
  whole : (n p : ℕ) → cell_length * n ≤ length s - p → cells n p ≡ cond (tags n p) (Ok (length s - ((length s - p) - cell_length * n))) (Err x)
  unfolding dec_many scanned tags_at listed every
  whole zero p h = rw (length-drop, sub-zero)
  whole (suc n) p h = go (f (field_at 1 p s)) refl (whole n (p + cell_length) (omega arith))
    where
      go : (b : Bool) → f (field_at 1 p s) ≡ b → cells n (p + cell_length) ≡ cond (tags n (p + cell_length)) (Ok (length s - ((length s - (p + cell_length)) - cell_length * n))) (Err x)
          → cells (suc n) p ≡ cond (tags (suc n) p) (Ok (length s - ((length s - p) - cell_length * suc n))) (Err x)
      go true g i =
          let e : (length s - (p + cell_length)) - cell_length * n ≡ (length s - p) - cell_length * suc n = omega arith in
          cell_there n p (omega arith) g ∙ i ∙ rw (g, e)
      go false g i = cell_bad n p (omega arith) g ∙ rw g

  -- they are not: the tags that are there are those of (k + word_length) / cell_length cells, where k bytes are left
  short : (n p : ℕ) → length s - p < cell_length * n → cells n p ≡ cond (tags ((length s - p + word_length) / cell_length) p) (Err InputEnds) (Err x)
  unfolding tags_at listed every
  short zero p h = absurd (omega arith)
  short (suc n) p h = go (dec_lt p (length s)) (dec_lt (length s - p) cell_length) (f (field_at 1 p s)) refl (short n (p + cell_length))
    where
      go : Dec (p < length s) → Dec (length s - p < cell_length) → (b : Bool) → f (field_at 1 p s) ≡ b
          → (length s - (p + cell_length) < cell_length * n → cells n (p + cell_length) ≡ cond (tags ((length s - (p + cell_length) + word_length) / cell_length) (p + cell_length)) (Err InputEnds) (Err x))
          → cells (suc n) p ≡ cond (tags ((length s - p + word_length) / cell_length) p) (Err InputEnds) (Err x)
      go (no a) l b g i = let e : (length s - p + word_length) / cell_length ≡ 0 = omega arith in cell_none n p (omega arith) ∙ rw e
      go (yes a) (yes l) true g i = let e : (length s - p + word_length) / cell_length ≡ 1 = omega arith in cell_part n p a l g ∙ rw (e, g)
      go (yes a) (yes l) false g i = let e : (length s - p + word_length) / cell_length ≡ 1 = omega arith in cell_bad n p a g ∙ rw (e, g)
      go (yes a) (no l) true g i =
          let e : (length s - p + word_length) / cell_length ≡ suc ((length s - (p + cell_length) + word_length) / cell_length) = omega arith in
          cell_there n p (omega arith) g ∙ i (omega arith) ∙ rw (e, g)
      go (yes a) (no l) false g i =
          let e : (length s - p + word_length) / cell_length ≡ suc ((length s - (p + cell_length) + word_length) / cell_length) = omega arith in
          cell_bad n p a g ∙ rw (e, g)

  -- what is found where `left` bytes are left and a loop has tested the tags that are there
  module _ (n p : ℕ) {left : ℕ} (rest : left ≡ length s - p) {ok : Bool} where
    pub cells_whole : cell_length * n ≤ left → ok ≡ tags n p → cells n p ≡ cond ok (Ok (length s - (left - cell_length * n))) (Err x)
    cells_whole h e = rw (e, rest) (whole n p (omega (arith, rest)))

    pub cells_short : left < cell_length * n → ok ≡ tags ((left + word_length) / cell_length) p → cells n p ≡ cond ok (Err InputEnds) (Err x)
    cells_short h e = rw (e, rest) (short n p (omega (arith, rest)))
