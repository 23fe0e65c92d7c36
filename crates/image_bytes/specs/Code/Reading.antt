-- What is read at a place of the input: numbers, words and cells.
use Rattle.std.specs.Prelude.{ℕ, zero, suc, ◌+◌, ◌*◌, cond, ◌&&◌, List, [], ◌∷◌, length, drop, leb}
use Rattle.window.specs.declared.Cell.{Cell}
use Rattle.window.specs.Memories.{Memory, cell}
use Rattle.image.specs.Codec.{field}
use Rattle.image.specs.Image.{memory_of, cell_length, word_length}
use Rattle.image.specs.Fields.{paired}

-- the number that w bytes at a place are; past the end, of the bytes that are there
abbrev pub field_at : (w at : ℕ) → List ℕ → ℕ
field_at w at s = field w (drop at s)

-- the same as a number of 64 bits: of more than 8 bytes 0
unfoldable pub number_at : (w at : ℕ) → List ℕ → ℕ
number_at w at s = cond (leb w 8) (field_at w at s) 0

-- n values, one at every `stride` bytes from a place on
unfoldable pub listed : {A : Type 0} → (stride : ℕ) → (ℕ → A) → (n at : ℕ) → List A
listed stride f zero at = []
listed stride f (suc n) at = f at ∷ listed stride f n (at + stride)

-- n words
unfoldable pub words_at : (n at : ℕ) → List ℕ → List ℕ
words_at n at s = listed word_length (λ p. field_at word_length p s) n at

-- n cells, each a tag and a word; and their tags
abbrev pub cell_from : (at : ℕ) → List ℕ → Cell
cell_from at s = cell (field_at 1 at s) (field_at word_length (at + 1) s)

unfoldable pub cells_at : (n at : ℕ) → List ℕ → List Cell
cells_at n at s = listed cell_length (λ p. cell_from p s) n at

unfoldable pub tags_at : (n at : ℕ) → List ℕ → List ℕ
tags_at n at s = listed cell_length (λ p. field_at 1 p s) n at

-- words filled from the bytes at a place; as they were where the bytes are not all there
unfoldable pub filled_words : (at : ℕ) → (s words : List ℕ) → List ℕ
filled_words at s words = cond (leb (word_length * length words) (length (drop at s))) (words_at (length words) at s) words

-- tags and words of one length, filled from the cells at a place
unfoldable pub filled_cells : (at : ℕ) → (s : List ℕ) → Memory → Memory
filled_cells at s m =
    cond (paired m && leb (cell_length * length m.words) (length (drop at s))) (memory_of (cells_at (length m.words) at s)) m
