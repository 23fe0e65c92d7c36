-- How many bytes values have, and that cells are written alike whatever their tags mean.
use Rattle.std.specs.Prelude.{ℕ, zero, suc, ◌*◌, ◌<◌, ◌≡◌, refl, Bool, true, List, [], ◌∷◌, ◌++◌, length, get_or, drop}
use Rattle.std.proofs.Common.{sym, ap, ◌∙◌, mul-zero, mul-suc, arith, length-append}
use Rattle.window.specs.declared.Cell.{Cell}
use Rattle.window.specs.Memories.{cell}
use Rattle.refusal.specs.declared.Refusal.{Refusal}
use Rattle.refusal.specs.declared.Refusal.TheVariants.{CellField}
use Rattle.image.specs.Codec.{Codec, num, seq, via, enc_many, no_state}
use Rattle.image.specs.Image.{word_codec, cell_codec, cells_of, cell_length, word_length}
use Rattle.image.proofs.Laws.Numbers.{length_digits}
use Rattle.image_bytes.specs.Code.Writing.{word_bytes, cell_bytes}

pub word_length_lem : (v : ℕ) → length (word_codec.enc v) ≡ word_length
unfolding word_codec num
word_length_lem v = length_digits word_length v

pub cell_length_lem : (e : Refusal) (f : ℕ → Bool) (c : Cell) → length ((cell_codec e f).enc c) ≡ cell_length
unfolding cell_codec via seq word_codec num
cell_length_lem e f c = rw (length-append, length_digits, length_digits)

-- values of one format, of `size` bytes each
pub uniform_length : {A : Type 0} (c : Codec A) (size : ℕ) → ((a : A) → length (c.enc a) ≡ size) → (xs : List A)
    → length (enc_many (λ _. c) no_state tt xs) ≡ size * length xs
unfolding enc_many
uniform_length c size long [] = sym (mul-zero size)
uniform_length c size long (x ∷ xs) = rw (length-append, long x, uniform_length c size long xs, mul-suc) (omega arith)

-- cells of tags and words of one length
pub cells_length_lem : (tags words : List ℕ) → length tags ≡ length words → length (cells_of tags words) ≡ length words
unfolding cells_of
cells_length_lem [] ws h = h
cells_length_lem (t ∷ ts) [] h = refl
cells_length_lem (t ∷ ts) (w ∷ ws) h = ap suc (cells_length_lem ts ws (omega arith))

pub cells_cons : (tags words : List ℕ) (i : ℕ) → length tags ≡ length words → i < length words
    → drop i (cells_of tags words) ≡ cell (get_or tags i 0) (get_or words i 0) ∷ drop (suc i) (cells_of tags words)
unfolding cells_of
cells_cons [] ws i e h = absurd (omega arith)
cells_cons (t ∷ ts) [] i e h = absurd (omega arith)
cells_cons (t ∷ ts) (w ∷ ws) zero e h = refl
cells_cons (t ∷ ts) (w ∷ ws) (suc i) e h = cells_cons ts ws i (omega arith) (omega arith)

pub word_bytes_length : (words : List ℕ) → length (word_bytes words) ≡ word_length * length words
unfolding word_bytes
word_bytes_length words = uniform_length word_codec word_length word_length_lem words

pub cell_bytes_length : (tags words : List ℕ) → length tags ≡ length words → length (cell_bytes tags words) ≡ cell_length * length words
unfolding cell_bytes
cell_bytes_length tags words e =
    uniform_length (cell_codec _ (λ _. true)) cell_length (cell_length_lem CellField (λ _. true)) (cells_of tags words) ∙ ap (λ (n : ℕ). cell_length * n) (cells_length_lem tags words e)

-- cells are written alike whatever their tags mean
cells_alike : (d e : Refusal) (f g : ℕ → Bool) (cs : List Cell) → enc_many (λ _. cell_codec d f) no_state tt cs ≡ enc_many (λ _. cell_codec e g) no_state tt cs
unfolding enc_many cell_codec via seq num
cells_alike d e f g [] = refl
cells_alike d e f g (c ∷ cs) = ap (λ (l : List ℕ). (cell_codec d f).enc c ++ l) (cells_alike d e f g cs)

pub cell_bytes_lem : (e : Refusal) (f : ℕ → Bool) (tags words : List ℕ) → enc_many (λ _. cell_codec e f) no_state tt (cells_of tags words) ≡ cell_bytes tags words
unfolding cell_bytes
cell_bytes_lem e f tags words = cells_alike e CellField f (λ _. true) (cells_of tags words)
