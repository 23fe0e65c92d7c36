-- Parts of a word: a byte, a quarter word, a half word, the word itself. Total over any width and place.
use Rattle.std.specs.Prelude.{◌≡◌, ℕ, suc, ◌+◌, ◌-◌, ◌*◌, ◌/◌, ◌%◌, ◌^◌, ◌<◌}
use Rattle.word.specs.declared.Part.{Part}

-- a part is a width, in bits, and a place, counted from the left
abbrev pub part_at : (width place : ℕ) → Part
part_at width place = record { width = width; place = place }

-- how many bits of the word stand to the right of a part
abbrev pub right_of : Part → ℕ
right_of part = 64 - part.width * suc part.place

-- a load puts the part right-justified with zeros before it
unfoldable pub extracted : Part → (word : ℕ) → ℕ
extracted part word = word / 2 ^ right_of part % 2 ^ part.width

-- a store puts the register's low bits into the part and changes no other bit: those to its left, the register's, those to its right
unfoldable pub placed : Part → (register word : ℕ) → ℕ
placed part register word =
    word / 2 ^ (right_of part + part.width) * 2 ^ (right_of part + part.width) + register % 2 ^ part.width * 2 ^ right_of part + word % 2 ^ right_of part

-- a part of a width that divides 64: so many of them fill a word, and this is one of these
pub record Fills (part : Part) : Type 0 where
  pub count : ℕ
  pub divides : part.width * count ≡ 64
  pub inside : part.place < count
