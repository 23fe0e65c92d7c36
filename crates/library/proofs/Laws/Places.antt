-- The first places of a buffer: counts that fit, and what is put over them.
use Rattle.std.specs.Prelude.{ℕ, ◌+◌, ◌-◌, ◌≤◌, ◌≡◌, true, List, ◌++◌, length, take, drop}
use Rattle.std.proofs.Common.{sym, ap, ◌∙◌, arith, length-append, take-append-drop, length-take-le, take-add, drop_at, drop-drop, leb-true}
use Rattle.std.proofs.Math.Seq.{take-append_seam, drop-append_seam}
use Rattle.word.proofs.Laws.Conjunctions.{both}
use Rattle.image.specs.Fields.{over}
use Rattle.library.specs.declared.Sizes.{Sizes}
use Rattle.library.specs.Buffers.{Room, fits}

-- counts that fit, one by one
pub record Fitting (n : Sizes) (r : Room) : Type 0 where
  pub rows : n.rows ≤ r.rows
  pub constant_tags : n.constants ≤ r.constant_tags
  pub constant_words : n.constants ≤ r.constant_words
  pub register_tags : n.registers ≤ r.register_tags
  pub register_words : n.registers ≤ r.register_words
  pub program : n.program ≤ r.program
  pub data_tags : n.data_words ≤ r.data_tags
  pub data_words : n.data_words ≤ r.data_words

pub fitting : (n : Sizes) (r : Room) → fits n r ≡ true → Fitting n r
unfolding fits
fitting n r e =
    let u =
    both (leb-true n.rows r.rows)
    (both (leb-true n.constants r.constant_tags)
    (both (leb-true n.constants r.constant_words)
    (both (leb-true n.registers r.register_tags)
    (both (leb-true n.registers r.register_words)
    (both (leb-true n.program r.program)
    (both (leb-true n.data_words r.data_tags) (leb-true n.data_words r.data_words))))))) e in
    record {
      rows = u.0;
      constant_tags = u.1.0;
      constant_words = u.1.1.0;
      register_tags = u.1.1.1.0;
      register_words = u.1.1.1.1.0;
      program = u.1.1.1.1.1.0;
      data_tags = u.1.1.1.1.1.1.0;
      data_words = u.1.1.1.1.1.1.1;
    }

module _ {A : Type 0} where
  -- the first places put over themselves
  pub over_first : (k : ℕ) (l : List A) → k ≤ length l → over (take k l) l ≡ l
  over_first k l h = ap (λ (j : ℕ). take k l ++ drop j l) (length-take-le k l h) ∙ take-append-drop k l

  -- as many as were there before
  pub over_cut : (k : ℕ) (l m : List A) → length m ≡ length (take k l) → k ≤ length l → m ++ drop k l ≡ over m l
  over_cut k l m e h = ap (λ (j : ℕ). m ++ drop j l) (sym (e ∙ length-take-le k l h))

  -- of the first m places, k were changed
  pub over_places : (k m : ℕ) (l x : List A) → k ≤ m → k ≤ length x → drop k x ≡ drop k l → k ≤ length l → take m x ≡ over (take k x) (take m l)
  over_places k m l x h i e j =
      let f : m ≡ k + (m - k) = omega arith in
      let p : (y : List A) → take m y ≡ take k y ++ take (m - k) (drop k y) = λ y. ap (λ (z : ℕ). take z y) f ∙ take-add k (m - k) y in
      let q : drop k (take m l) ≡ take (m - k) (drop k l) = ap (drop k) (p l) ∙ drop_at (take k l) (take (m - k) (drop k l)) k (length-take-le k l j) in
      p x ∙ ap (λ (y : List A). take k x ++ take (m - k) y) e ∙ ap (λ (y : List A). take k x ++ y) (sym q) ∙ ap (λ (z : ℕ). take k x ++ drop z (take m l)) (sym (length-take-le k x i))

  -- what stays from place k on stays from any later place on
  pub drop_later : (k m : ℕ) (l x : List A) → k ≤ m → drop k x ≡ drop k l → drop m x ≡ drop m l
  drop_later k m l x h e =
      let f : m ≡ k + (m - k) = omega arith in
      let p : (y : List A) → drop m y ≡ drop (m - k) (drop k y) = λ y. ap (λ (z : ℕ). drop z y) f ∙ sym (drop-drop (m - k) k y) in
      p x ∙ ap (drop (m - k)) e ∙ sym (p l)

  -- elements put over the first places, and then the first m of all: as if put over those
  pub take_over : (xs l : List A) (m : ℕ) → length xs ≤ m → length xs ≤ length l → take m (over xs l) ≡ over xs (take m l)
  take_over xs l m h j =
      let k = length xs in
      let p : take k (over xs l) ≡ xs = take-append_seam xs (drop k l) in
      let n : k ≤ length (over xs l) = rw (length-append xs (drop k l)) (omega arith) in
      over_places k m l (over xs l) h n (drop-append_seam xs (drop k l)) j ∙ rw p
