-- The first places of buffers, filled from bytes that are all there.
use Prim.Native.Nat.{ℕ, ◌-◌, ◌*◌, ◌≤◌}
use mathlib.Core.Path.{◌≡◌, refl}
use mathlib.Core.List.{List, ◌++◌, map}
use lib.ListN.{length, take, drop, length-drop, length-map}
use lib.Seq.{length-take-le}
use borrow.Author.Tests.{le-leb, eq-eqb}
use Rattle.window.specs.declared.Cell.{Cell}
use Rattle.window.specs.Memories.{memory}
use Rattle.image.specs.Image.{memory_of, cell_length, word_length}
use Rattle.image.specs.Fields.{paired, over}
use Rattle.image_bytes.specs.Code.Reading.{words_at, cells_at, filled_words, filled_cells}
use Rattle.image_bytes.specs.Laws.Listed.{length_listed}

module _ (at n : ℕ) (s l : List ℕ) where
  -- as many as are filled
  pub words_over : words_at n at s ++ drop n l ≡ over (words_at n at s) l
  unfolding words_at
  words_over = rw length_listed

  pub cells_over : (f : Cell → ℕ) → map f (cells_at n at s) ++ drop n l ≡ over (map f (cells_at n at s)) l
  unfolding cells_at
  cells_over f = rw (length-map, length_listed)

module _ (at n : ℕ) (s : List ℕ) where
  pub first_words : (words : List ℕ) → n ≤ length words → word_length * n ≤ length s - at → filled_words at s (take n words) ≡ words_at n at s
  unfolding filled_words
  first_words words h k = rw (length-take-le n words h, le-leb (word_length * n) (length (drop at s)) (rw length-drop k))

  pub first_cells : (tags words : List ℕ) → n ≤ length tags → n ≤ length words → cell_length * n ≤ length s - at
      → filled_cells at s (memory (take n tags) (take n words)) ≡ memory_of (cells_at n at s)
  unfolding filled_cells paired
  first_cells tags words g h k =
      rw (length-take-le n tags g, length-take-le n words h, eq-eqb n n refl, le-leb (cell_length * n) (length (drop at s)) (rw length-drop k))
