-- Document 01's numbers in the answers of the calls: the number of the refusal, 0 where there is none.
use Rattle.std.specs.Prelude.{ℕ, Option, None, Some}
use Rattle.refusal.specs.declared.Refusal.{Refusal}
use Rattle.refusal.specs.Numbers.{number_of}
use Rattle.library.specs.Calls.{Answer, refuses, answers}

-- the refusal's number, or 0
unfoldable pub number_answered : {A : Type 0} → Answer A → ℕ
number_answered (refuses e) = number_of e
number_answered (answers a) = 0

-- the number of a refusal, 0 where there is none
unfoldable pub numbered : Option Refusal → ℕ
numbered None = 0
numbered (Some e) = number_of e
