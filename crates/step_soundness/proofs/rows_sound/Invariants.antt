use Rattle.std.proofs.Common.{◌≡◌, drop}
use Rattle.step.specs.Soundness.{rows_sound}
use Rattle.step_soundness.proofs.rows_sound.Given as goal

abbrev pub invariant-loop-row : goal.invariant-loop-row
invariant-loop-row l = rows_sound l.before (drop l.row-index l.rows) ≡ rows_sound 0 l.rows
