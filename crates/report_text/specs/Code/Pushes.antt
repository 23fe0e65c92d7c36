-- A text under way in a buffer, byte by byte.
use Rattle.std.specs.Prelude.{ℕ, ◌+◌, ◌≡◌, cond, List, [], ◌∷◌, ltb, length, set}
use Rattle.report_text.specs.declared.Text.{Text as LentText}

-- a buffer and how many of its bytes are the text
pub record Text : Type 0 where
  pub len : ℕ
  pub bytes : List ℕ

unfoldable pub written : (len : ℕ) (bytes : List ℕ) → Text
written len bytes = record { len = len; bytes = bytes }

-- one byte more; a full buffer stays as it is
unfoldable pub pushed : Text → ℕ → Text
pushed t b = cond (ltb t.len (length t.bytes)) (written (t.len + 1) (set t.bytes t.len b)) t

unfoldable pub appended : Text → List ℕ → Text
appended t [] = t
appended t (b ∷ bytes) = appended (pushed t b) bytes

-- a text goes on in the same buffer
pub record Adds (before after : LentText) (text : List ℕ) : Type 0 where
  pub same_buffer : after.out.ghost_name ≡ before.out.ghost_name
  pub bytes : written after.len after.out.now ≡ appended (written before.len before.out.now) text
