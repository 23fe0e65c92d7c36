-- Where the row of a task stands: the first with its number.
use Rattle.std.specs.Prelude.{ℕ, List, Option, eqb}
use Rattle.std.specs.List.{position_from}
use Rattle.window.specs.declared.Row.{Row}

-- in rows of which the first has the index k
abbrev pub place_from : (t k : ℕ) → List Row → Option ℕ
place_from t k rows = position_from (λ r. eqb r.task t) k rows
