-- The PTs of all queues one by one: each is marked as it comes.
use Rattle.std.specs.Prelude.{ℕ, Bool, true, false, cond, not, ◌&&◌, List, [], ◌∷◌, Option, Some, None, get_or, set}
use Rattle.word.specs.Fields.{psw_sound}
use Rattle.step.specs.Soundness.{pt_sound}

-- a PT that has not come before, with a sound PSW
unfoldable pub fresh : (psw : List ℕ) → (marked : List Bool) → ℕ → Bool
fresh psw marked p = pt_sound p && (not (get_or marked p false) && psw_sound (get_or psw p 0))

-- the marks after more PTs, in order; none where one of them is not fresh
unfoldable pub seen_after : (psw pts : List ℕ) → (marked : List Bool) → Option (List Bool)
seen_after psw [] marked = Some marked
seen_after psw (p ∷ pts) marked = cond (fresh psw marked p) (seen_after psw pts (set marked p true)) None
