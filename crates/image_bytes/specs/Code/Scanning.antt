-- A check under way: what reading a format at a place tells of it.
use Rattle.std.specs.Prelude.{ℕ, ◌+◌, ◌-◌, ◌≤◌, Bool, List, length, drop, Result as Checked, Ok, Err}
use Rattle.window.specs.Sound.{quality_sound, tag_sound, state_sound}
use Rattle.refusal.specs.declared.Refusal.{Refusal}
use Rattle.refusal.specs.declared.Refusal.TheVariants.{ConstantField, CellField}
use Rattle.image.specs.Codec.{Result, refused, accepted}
use Rattle.image_bytes.specs.declared.CellKind.{CellKind}
use Rattle.image_bytes.specs.declared.CellKind.TheVariants.{Constant, Register, Data}
use Rattle.image_bytes.specs.Code.Reading.{number_at}

-- a check of an image under way: refused, or at the place of the next field
abbrev pub Scan : Type 0
Scan = Checked ℕ Refusal

-- of an input of n bytes: the refusal, or the place of the bytes after the value
unfoldable pub scanned : {A : Type 0} → (n : ℕ) → Result A → Scan
scanned n (refused e) = Err e
scanned n (accepted a r) = Ok (n - length r)

-- a check goes on with what reads at its place
unfoldable pub scan : {A : Type 0} → (List ℕ → Result A) → (s : List ℕ) → Scan → Scan
scan read s (Err e) = Err e
scan read s (Ok p) = scanned (length s) (read (drop p s))

-- its place is not past the end
unfoldable pub Within : (s : List ℕ) → Scan → Type 0
Within s (Err e) = Unit {0}
Within s (Ok p) = p ≤ length s

-- the number of w bytes that stands k bytes behind the place of a check
unfoldable pub value_at : (k w : ℕ) → (s : List ℕ) → Scan → ℕ
value_at k w s (Err e) = 0
value_at k w s (Ok p) = number_at w (p + k) s

-- the quality of a constant, the tag of a register, the state of a data word
unfoldable pub tag_test : CellKind → ℕ → Bool
tag_test Constant = quality_sound
tag_test Register = tag_sound
tag_test Data = state_sound

-- what they are refused by
unfoldable pub tag_refusal : CellKind → Refusal
tag_refusal Constant = ConstantField
tag_refusal Register = CellField
tag_refusal Data = CellField
