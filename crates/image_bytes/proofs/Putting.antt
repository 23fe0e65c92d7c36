-- The loops that write: their invariants, and a turn of each.
use Prim.Native.Nat.{ℕ, suc, ◌+◌, ◌-◌, ◌*◌, ◌/◌, ◌%◌, ◌≤◌, ◌<◌}
use mathlib.Core.Path.{◌≡◌, refl, sym, ap, ◌∙◌}
use mathlib.Core.Bool.{true}
use mathlib.Core.List.{List, [], ◌∷◌, ◌++◌}
use native.Mathlib.Nat.{sub-zero, add-zero, mul-suc}
use Rattle.std.proofs.Math.Nat.{div-div-eq-div-mul}
use Rattle.std.specs.Int.{w64, to_be_bytes}
use borrow.Rule.Slice.PartMut.{put_mid}
use lib.Seq.{drop-drop}
use native.Mathlib.Numerals.{add-one}
use native.Mathlib.Omega.{arith}
use lib.ListN.{length, get_or, drop, set, drop_of_length-le}
use borrow.Author.Tests.{eq-eqb, ne_eqb}
use Rattle.refusal.specs.declared.Refusal.TheVariants.{CellField}
use Rattle.window.specs.Memories.{cell}
use Rattle.image.specs.Codec.{Codec, digits, num, seq, via, enc_many, no_state}
use Rattle.image.specs.Image.{word_codec, cell_codec, cells_of, cell_length, word_length}
use Rattle.image.proofs.Laws.Numbers.{length_digits}
use Rattle.image_bytes.specs.Code.Writing.{laid, put_at, cell_bytes, put_cells}
use Rattle.image_bytes.specs.Laws.Laid.{put_fits, put_not, laid_nil, laid_snoc, length_laid, laid_append}
use Rattle.image_bytes.specs.Laws.Bytes.{uniform_length, cell_length_lem, cells_length_lem, cells_cons, cell_bytes_length}

-- ---- a number: the highest k digits are still to be written

pub put_step : (at k x : ℕ) (l : List ℕ) → 0 < k → at + k ≤ length l
    → laid at (digits (k - 1) (x / 256)) (set l (at + (k - 1)) (x % 256)) ≡ laid at (digits k x) l
unfolding digits
put_step at k x l hk h =
    let e : k ≡ suc (k - 1) = omega arith in
    let d : digits k x ≡ digits (k - 1) (x / 256) ++ (x % 256 ∷ []) = ap (λ (j : ℕ). digits j x) e in
    let s = laid_snoc at (digits (k - 1) (x / 256)) (x % 256) l (rw length_digits (omega arith)) in
    rw d (rw length_digits at s)

pub put_done : (at k x : ℕ) (l : List ℕ) → k ≤ 0 → laid at (digits k x) l ≡ l
unfolding digits
put_done at k x l h = let e : k ≡ 0 = omega arith in rw e (laid_nil at l)

-- one byte
pub byte_laid : (at x : ℕ) (l : List ℕ) → at < length l → x < 256 → set l at x ≡ laid at (digits 1 x) l
unfolding digits
byte_laid at x l h small =
    let e : x % 256 ≡ x = omega arith in
    sym (laid_nil at (set l at x)) ∙ rw add-zero at (laid_snoc at [] x l (rw add-zero h)) ∙ rw e

-- a word, as the library has its bytes
word_digits : (v : ℕ) → to_be_bytes w64 v ≡ digits word_length v
unfolding digits
word_digits v = simp div-div-eq-div-mul

pub word_laid : (at v : ℕ) (l : List ℕ) {bytes xs : List ℕ} → bytes ≡ to_be_bytes w64 v → xs ≡ bytes → put_mid at (at + word_length - at) l xs ≡ laid at (digits word_length v) l
unfolding laid
word_laid at v l {xs = xs} e f =
    let k : at + word_length - at ≡ word_length = omega arith in
    let d : xs ≡ digits word_length v = f ∙ e ∙ word_digits v in
    rw (d, k, length_digits, drop-drop)

-- ---- values of one format, of `size` bytes each

module _ {A : Type 0} (c : Codec A) (size : ℕ) (long : (a : A) → length (c.enc a) ≡ size) (at : ℕ) (xs : List A) (l₀ : List ℕ) where
  -- i of the values are in l, which was l₀; the next goes to p
  pub record Putting (l : List ℕ) (p i : ℕ) : Type 0 where
    pub most : i ≤ length xs
    pub inside : p + size * (length xs - i) ≤ length l₀
    pub same : length l ≡ length l₀
    pub all : laid p (enc_many (λ _. c) no_state tt (drop i xs)) l ≡ laid at (enc_many (λ _. c) no_state tt xs) l₀

  pub start : {p : ℕ} → p ≡ at → at + size * length xs ≤ length l₀ → Putting l₀ p 0
  start b h = record { most = omega arith; inside = rw (b, sub-zero) h; same = refl; all = rw b }

  module _ {l : List ℕ} {p i : ℕ} (z : Putting l p i) where
    pub fits : i < length xs → p + size ≤ length l₀
    fits h =
        let e : length xs - i ≡ suc (length xs - (i + 1)) = omega arith in
        let m : size * (length xs - i) ≡ size * (length xs - (i + 1)) + size = rw (e, mul-suc) in
        omega (arith, z.inside)

    pub step : {a : A} {l₁ : List ℕ} {q : ℕ} → q ≡ p + size → i < length xs → drop i xs ≡ a ∷ drop (suc i) xs → l₁ ≡ laid p (c.enc a) l → Putting l₁ q (i + 1)
    unfolding enc_many
    step {a} {l₁} b h d e1 =
        let e : length xs - i ≡ suc (length xs - (i + 1)) = omega arith in
        let m : size * (length xs - i) ≡ size * (length xs - (i + 1)) + size = rw (e, mul-suc) in
        let r : p + length (c.enc a) ≤ length l = rw (long a, z.same) (fits h) in
        let o = laid_append p (c.enc a) (enc_many (λ _. c) no_state tt (drop (suc i) xs)) l r in
        record {
          most = omega arith;
          inside = omega (arith, z.inside, b);
          same = rw e1 (length_laid p (c.enc a) l r) ∙ z.same;
          all = rw (b, e1, add-one i) (rw (long a) at o) ∙ rw d at z.all;
        }

    pub done : length xs ≤ i → at + size * length xs ≤ length l₀ → l ≡ put_at at (enc_many (λ _. c) no_state tt xs) l₀
    unfolding enc_many
    done h fit =
        let d : drop i xs ≡ [] = drop_of_length-le xs h in
        let n : at + length (enc_many (λ _. c) no_state tt xs) ≤ length l₀ = rw (uniform_length c size long xs) fit in
        sym (laid_nil p l) ∙ rw d at z.all ∙ put_fits at (enc_many (λ _. c) no_state tt xs) l₀ n

-- ---- cells, each in two parts

cell_laid : (at t w : ℕ) (l : List ℕ) {x : ℕ} {l₁ l₂ : List ℕ} → at + cell_length ≤ length l → x ≡ t → l₁ ≡ laid at (digits 1 x) l → l₂ ≡ laid (at + 1) (digits word_length w) l₁
    → l₂ ≡ laid at ((cell_codec CellField (λ _. true)).enc (cell t w)) l
unfolding cell_codec via seq word_codec num
cell_laid at t w l h ex e1 e2 =
    let o = laid_append at (digits 1 t) (digits word_length w) l (rw length_digits (omega arith)) in
    rw (e2, e1, ex) (rw length_digits at o)

abbrev pub PuttingCells : (at : ℕ) (tags words l₀ l : List ℕ) (p i : ℕ) → Type 0
PuttingCells at tags words l₀ l p i = Putting (cell_codec CellField (λ _. true)) cell_length (cell_length_lem CellField (λ _. true)) at (cells_of tags words) l₀ l p i

module _ (at : ℕ) (tags words l₀ : List ℕ) where
  pub cells_unpaired : (length tags ≡ length words → ⊥) → l₀ ≡ put_cells at tags words l₀
  unfolding put_cells
  cells_unpaired h = rw (ne_eqb (length tags) (length words) h)

  module _ (same : length tags ≡ length words) where
    paired : {l : List ℕ} → l ≡ put_at at (cell_bytes tags words) l₀ → l ≡ put_cells at tags words l₀
    unfolding put_cells
    paired h = rw (eq-eqb (length tags) (length words) same) h

    many : length (cells_of tags words) ≡ length words
    many = cells_length_lem tags words same

    pub cells_not : length l₀ < at + cell_length * length words → l₀ ≡ put_cells at tags words l₀
    cells_not h = paired (put_not at (cell_bytes tags words) l₀ (rw (cell_bytes_length tags words same) h))

    module _ (fit : at + cell_length * length words ≤ length l₀) where
      pub cells_start : {p : ℕ} → p ≡ at → PuttingCells at tags words l₀ l₀ p 0
      cells_start b = start (cell_codec CellField (λ _. true)) cell_length (cell_length_lem CellField (λ _. true)) at (cells_of tags words) l₀ b (rw many fit)

      module _ {l : List ℕ} {p i : ℕ} (z : PuttingCells at tags words l₀ l p i) where
        pub cells_fit : i < length words → p + cell_length ≤ length l₀
        cells_fit h = fits (cell_codec CellField (λ _. true)) cell_length (cell_length_lem CellField (λ _. true)) at (cells_of tags words) l₀ z (rw many h)

        pub cells_step : {x q : ℕ} {l₁ l₂ : List ℕ} → q ≡ p + cell_length → i < length words → x ≡ get_or tags i 0 → l₁ ≡ laid p (digits 1 x) l
            → l₂ ≡ laid (p + 1) (digits word_length (get_or words i 0)) l₁ → PuttingCells at tags words l₀ l₂ q (i + 1)
        cells_step b h ex e1 e2 =
            step (cell_codec CellField (λ _. true)) cell_length (cell_length_lem CellField (λ _. true)) at (cells_of tags words) l₀ z b (rw many h) (cells_cons tags words i same h)
            (cell_laid p (get_or tags i 0) (get_or words i 0) l (rw z.same (cells_fit h)) ex e1 e2)

        pub cells_done : length words ≤ i → l ≡ put_cells at tags words l₀
        unfolding cell_bytes
        cells_done h = paired (done (cell_codec CellField (λ _. true)) cell_length (cell_length_lem CellField (λ _. true)) at (cells_of tags words) l₀ z (rw many h) (rw many fit))
