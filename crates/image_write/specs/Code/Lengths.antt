-- The length of the image that was written.
use Rattle.std.specs.Prelude.{ℕ, Result, Ok, Err}
use Rattle.refusal.specs.declared.Refusal.{Refusal}

-- 0 where it was refused
unfoldable pub length_written : Result ℕ Refusal → ℕ
length_written (Err e) = 0
length_written (Ok k) = k
