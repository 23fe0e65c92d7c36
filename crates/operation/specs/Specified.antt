-- The part of a data word that a byte address specifies, by B and its low three bits.
use Rattle.std.specs.Prelude.{ℕ, ◌%◌, cond, List, [], ◌∷◌, eqb, get_or, Option, Some, None}
use Rattle.word.specs.declared.Part.{Part}
use Rattle.word.specs.Parts.{part_at}
use Rattle.operation.specs.Roles.{b_of}

-- the word, a half, a quarter and a byte of it, by the place from the left
abbrev pub word : Option Part
word = Some (part_at 64 0)

abbrev pub half : (place : ℕ) → Option Part
half place = Some (part_at 32 place)

abbrev pub quarter : (place : ℕ) → Option Part
quarter place = Some (part_at 16 place)

abbrev pub byte : (place : ℕ) → Option Part
byte place = Some (part_at 8 place)

-- with B = 0 the low three address bits mean
unfoldable pub word_parts : List (Option Part)
word_parts =
    word ∷  -- 0 the word
    quarter 0 ∷  -- 1 the first quarter from the left
    half 0 ∷  -- 2 the left half
    quarter 1 ∷  -- 3 the second quarter
    None ∷  -- 4 trap 12
    quarter 2 ∷  -- 5 the third quarter
    half 1 ∷  -- 6 the right half
    quarter 3 ∷  -- 7 the fourth quarter
    []

-- with B = 1 the low three address bits name byte 0 to 7 from the left
unfoldable pub specified_part : (low e : ℕ) → Option Part
specified_part low e = cond (eqb (b_of low) 1) (byte (e % 8)) (get_or word_parts (e % 8) None)
