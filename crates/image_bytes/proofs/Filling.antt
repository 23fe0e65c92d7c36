-- The loop that fills a slice with values at every so many bytes: its invariant, and a turn.
use Prim.Native.Nat.{ℕ, suc, ◌+◌, ◌-◌, ◌*◌, ◌≤◌, ◌<◌}
use mathlib.Core.Path.{◌≡◌, sym, ap₂, ◌∙◌}
use mathlib.Core.List.{List, ◌++◌, append_assoc, append-nil}
use native.Mathlib.Nat.{mul-suc}
use native.Mathlib.Numerals.{add-one}
use native.Mathlib.Omega.{arith}
use lib.ListN.{length, take, drop, set, length-set, length-drop}
use lib.Seq.{take-suc-set, take_all}
use borrow.Author.Tests.{le-leb, lt-leb, eq-eqb, ne_eqb}
use Rattle.window.specs.Memories.{memory, tag_of, word_of}
use Rattle.image.specs.Image.{memory_of, cell_length, word_length}
use Rattle.image.specs.Fields.{paired}
use Rattle.image_bytes.specs.Code.Reading.{field_at, listed, words_at, cell_from, cells_at, filled_words, filled_cells}
use Rattle.image_bytes.specs.Laws.Listed.{map_listed}

-- i of n values are in l; the next stands at p of `long` bytes; what is still to come completes what is wanted
pub record Filling (stride : ℕ) (f : ℕ → ℕ) (long at n : ℕ) (l : List ℕ) (p i : ℕ) : Type 0 where
  pub most : i ≤ n
  pub inside : stride * (n - i) ≤ long - p
  pub size : length l ≡ n
  pub all : take i l ++ listed stride f (n - i) p ≡ listed stride f n at

module _ (stride : ℕ) (f : ℕ → ℕ) (long at n : ℕ) (l : List ℕ) where
  module _ (p i : ℕ) (z : Filling stride f long at n l p i) where
    -- v is the next
    pub step : {v q : ℕ} → q ≡ p + stride → i < n → v ≡ f p → Filling stride f long at n (set l i v) q (i + 1)
    unfolding listed
    step {v} b h hv =
        let e : n - i ≡ suc (n - suc i) = omega arith in
        let m : stride * (n - i) ≡ stride * (n - suc i) + stride = rw (e, mul-suc) in
        record {
          most = omega arith;
          inside = rw (b, add-one) (omega (arith, z.inside));
          size = length-set l i _ ∙ z.size;
          all = rw (b, hv, add-one i, take-suc-set l i (f p) (omega (arith, z.size)), append_assoc) (rw e at z.all);
        }

    pub done : n ≤ i → l ≡ listed stride f n at
    unfolding listed
    done h =
        let e : n - i ≡ 0 = omega arith in
        let t : take i l ≡ l = take_all i l (omega (arith, z.size)) in
        sym t ∙ sym (append-nil (take i l)) ∙ rw e at z.all

-- ---- what is filled, and what stays

pub words_filled : (at : ℕ) (s l₀ : List ℕ) {l : List ℕ} → word_length * length l₀ ≤ length s - at → l ≡ listed word_length (λ p. field_at word_length p s) (length l₀) at → l ≡ filled_words at s l₀
unfolding filled_words words_at
words_filled at s l₀ h e = rw (le-leb (word_length * length l₀) (length (drop at s)) (rw length-drop h)) e

pub words_stay : (at : ℕ) (s l₀ : List ℕ) → length s - at < word_length * length l₀ → l₀ ≡ filled_words at s l₀
unfolding filled_words
words_stay at s l₀ h = rw (lt-leb (word_length * length l₀) (length (drop at s)) (rw length-drop h))

module _ (at : ℕ) (s tags₀ words₀ : List ℕ) where
  pub cells_unpaired : (length tags₀ ≡ length words₀ → ⊥) → memory tags₀ words₀ ≡ filled_cells at s (memory tags₀ words₀)
  unfolding filled_cells paired
  cells_unpaired h = rw (ne_eqb (length tags₀) (length words₀) h)

  module _ (same : length tags₀ ≡ length words₀) where
    pub cells_stay : length s - at < cell_length * length words₀ → memory tags₀ words₀ ≡ filled_cells at s (memory tags₀ words₀)
    unfolding filled_cells paired
    cells_stay h = rw (eq-eqb (length tags₀) (length words₀) same, lt-leb (cell_length * length words₀) (length (drop at s)) (rw length-drop h))

    pub cells_filled : {tags words : List ℕ} → cell_length * length words₀ ≤ length s - at → tags ≡ listed cell_length (λ p. field_at 1 p s) (length words₀) at
        → words ≡ listed cell_length (λ p. field_at word_length (p + 1) s) (length words₀) at → memory tags words ≡ filled_cells at s (memory tags₀ words₀)
    unfolding filled_cells paired memory_of cells_at
    cells_filled h e f =
        rw (eq-eqb (length tags₀) (length words₀) same, le-leb (cell_length * length words₀) (length (drop at s)) (rw length-drop h))
        (ap₂ memory (e ∙ sym (map_listed cell_length tag_of (λ p. cell_from p s) (length words₀) at)) (f ∙ sym (map_listed cell_length word_of (λ p. cell_from p s) (length words₀) at)))
