-- Texts as bytes: letters as they stand, and hex digits as document 01 prints an input.
use Rattle.std.specs.Prelude.{ℕ, ◌+◌, ◌-◌, ◌*◌, cond, ◌||◌, List, [], ◌∷◌, eqb, ltb}
use Prim.Native.Char.{code}
use Prim.Native.String.{String}
use Prim.Native.String as text

-- the characters of a text, each as its number
unfoldable pub letters : String → List ℕ
letters text.[] = []
letters (text.◌∷◌ c s) = code c ∷ letters s

-- without spaces and bars
unfoldable pub unspaced : List ℕ → List ℕ
unspaced [] = []
unspaced (c ∷ s) = cond (eqb c 32 || eqb c 124) (unspaced s) (c ∷ unspaced s)

-- the value of a hex digit: '0' is 48, 'A' 65
unfoldable pub hex_value : ℕ → ℕ
hex_value c = cond (ltb c 58) (c - 48) (c - 55)

-- two digits a byte
unfoldable pub pairs_of : List ℕ → List ℕ
pairs_of [] = []
pairs_of (a ∷ []) = []
pairs_of (a ∷ b ∷ s) = (hex_value a * 16 + hex_value b) ∷ pairs_of s

-- the bytes that a text of hex digits shows
unfoldable pub hex_bytes : String → List ℕ
hex_bytes s = pairs_of (unspaced (letters s))
