-- What the program reads of its input, and what it writes.
use Rattle.std.specs.Prelude.{ℕ, cond, List, length, take, drop, ◌++◌, None, Some, Ok, Err, Option, IfSome, OnOk, ◌≡◌, ◌≤◌, ◌<◌, refl, Result}
use Rattle.std.proofs.Common.{ap, sym, subst, ◌∙◌, arith, le-ltb, lt-ltb, length-take-le, take_all, take_at, append-nil, inl, inr}
use Rattle.std.proofs.lemmas.Bool.{cases_lt}
use lib.Seq.{take-append-le}
use Rattle.std.specs.Io.KnownBytes.{Appends, Consumes, IsAtEnd}
use Rattle.report.specs.Report.{output_of}
use Rattle.batch.specs.Output.{bytes_copied, copied_into}

-- a buffer of so many bytes is filled, or has the whole input
pub front_read : (room : ℕ) (a b : Option (List ℕ)) (bs : List ℕ) → Consumes a b bs → length bs ≤ room → (length bs < room → IsAtEnd b)
    → IfSome a (λ xs. take room xs ≡ bs)
front_read room None b bs reads fits end = tt
front_read room (Some x) None bs reads fits end = absurd reads
front_read room (Some x) (Some y) bs reads fits end = ap (take room) reads ∙ elim (cases_lt (length bs) room) [
  | inl h ↦ ap (take room) (ap (λ l. bs ++ l) (end h) ∙ append-nil bs) ∙ take_all room bs fits
  | inr h ↦ take-append-le room bs y h ∙ take_all room bs fits
]

-- a text that has room is copied whole
pub front_written : (text buffer : List ℕ) (k : ℕ) (after : List ℕ) → k ≡ bytes_copied text buffer → after ≡ copied_into text buffer → length text ≤ length buffer
    → take k after ≡ text
unfolding bytes_copied copied_into
front_written text buffer k after copied is room =
    let e : k ≡ length text = copied ∙ ap (λ b. cond b 0 (length text)) (le-ltb (length buffer) (length text) room) in
    let whole : after ≡ text ++ drop (length text) buffer = is ∙ ap (λ b. cond b buffer (text ++ drop (length text) buffer)) (le-ltb (length buffer) (length text) room) in
    rw (e, whole) (take_at text (drop (length text) buffer) (length text) refl)

-- an input that is too long is refused, whatever follows its first 65,537 bytes
output_of_front : (xs : List ℕ) → output_of (take 65537 xs) ≡ output_of xs
unfolding output_of
output_of_front xs = elim (cases_lt 65537 (length xs)) [
  | inl h ↦ rw (lt-ltb 65536 (length (take 65537 xs)) (omega (arith, length-take-le 65537 xs (omega arith))), lt-ltb 65536 (length xs) (omega arith)) refl
  | inr h ↦ ap output_of (take_all 65537 xs h)
]

-- what is written is the output of what is read, which is the output of the whole input
pub answered : {T E : Type 0} (r : Result T E) (a v w : Option (List ℕ)) (bs written : List ℕ)
    → OnOk r (Appends v w written) → written ≡ output_of bs → IfSome a (λ xs. take 65537 xs ≡ bs) → OnOk r (IfSome a (λ xs. Appends v w (output_of xs)))
answered (Ok t) None v w bs written writes e reads = tt
answered (Ok t) (Some x) v w bs written writes e reads = subst (Appends v w) (e ∙ ap output_of (sym reads) ∙ output_of_front x) writes
answered (Err f) a v w bs written writes e reads = tt
