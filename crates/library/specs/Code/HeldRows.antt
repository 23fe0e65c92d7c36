-- Rows by value: seven places, the first n of them held.
use Rattle.std.specs.Prelude.{◌≡◌, List, length, take, drop}
use Rattle.window.specs.Limits.{tasks}
use Rattle.window.specs.declared.Row.{Row}
use Rattle.library.specs.declared.Rows.{Rows}

-- the first n of seven rows
unfoldable pub held_rows : Rows → List Row
held_rows v = take v.n v.at

-- as many rows as before, of seven; what stands from that count on stays
pub record SamePlaces (before after : Rows) : Type 0 where
  pub count : after.n ≡ before.n
  pub places : length after.at ≡ tasks
  pub beyond : drop before.n after.at ≡ drop before.n before.at
