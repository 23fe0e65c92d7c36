-- Parts of data words as code reaches and leaves them.
use Rattle.std.specs.Prelude.{ℕ, ◌%◌, Bool, cond, not, ◌&&◌, List, eqb, set}
use Rattle.operation.specs.Roles.{b_of, sac_of}

-- the whole word is specified
unfoldable pub whole_word : (low e : ℕ) → Bool
whole_word low e = not (eqb (b_of low) 1) && eqb (e % 8) 0

-- the data tags that a load of the word p leaves
unfoldable pub tags_left : (low p : ℕ) → List ℕ → List ℕ
tags_left low p tags = cond (eqb (sac_of low) 2) (set tags p 0) tags
