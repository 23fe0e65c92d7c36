-- What is put at a place of the output: numbers, words and cells.
use Rattle.std.specs.Prelude.{ℕ, ◌+◌, true, cond, List, ◌++◌, length, take, drop, leb, eqb}
use Rattle.refusal.specs.declared.Refusal.TheVariants.{CellField}
use Rattle.image.specs.Codec.{enc_many, no_state}
use Rattle.image.specs.Image.{word_codec, cell_codec, cells_of}

-- bytes with others in their place from `at` on
unfoldable pub laid : (at : ℕ) → (xs l : List ℕ) → List ℕ
laid at xs l = take at l ++ (xs ++ drop (at + length xs) l)

-- the same where they all fit; else nothing changes
unfoldable pub put_at : (at : ℕ) → (xs l : List ℕ) → List ℕ
put_at at xs l = cond (leb (at + length xs) (length l)) (laid at xs l) l

-- the bytes of words
unfoldable pub word_bytes : List ℕ → List ℕ
word_bytes words = enc_many (λ _. word_codec) no_state tt words

-- the bytes of cells: they are written alike whatever their tags mean
unfoldable pub cell_bytes : (tags words : List ℕ) → List ℕ
cell_bytes tags words = enc_many (λ _. cell_codec CellField (λ _. true)) no_state tt (cells_of tags words)

-- the cells of tags and words of one length, put at a place
unfoldable pub put_cells : (at : ℕ) → (tags words l : List ℕ) → List ℕ
put_cells at tags words l = cond (eqb (length tags) (length words)) (put_at at (cell_bytes tags words) l) l
