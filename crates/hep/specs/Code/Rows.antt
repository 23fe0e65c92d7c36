-- A slice of rows, taken by value and put back: the first seven.
use Rattle.std.specs.Prelude.{List, length, take}
use Rattle.window.specs.declared.Row.{Row}
use Rattle.window.specs.Limits.{tasks}
use Rattle.image.specs.Fields.{over}
use Rattle.library.specs.declared.Rows.{Rows}
use Rattle.library.specs.Empty.{no_rows}

-- the rows of the slice over rows of no task
unfoldable pub loaded_rows : List Row → Rows
loaded_rows rows = record { at = over (take tasks rows) no_rows; n = length (take tasks rows) }

-- the rows of v over those of the slice
unfoldable pub stored_rows : List Row → Rows → List Row
stored_rows rows v = over (take (length rows) v.at) rows
