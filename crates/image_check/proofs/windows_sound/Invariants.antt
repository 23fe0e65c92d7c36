use Prim.Native.Nat.{◌+◌, ◌-◌, ◌*◌}
use mathlib.Core.Path.{◌≡◌}
use Rattle.step.specs.Soundness.{windows_sound}
use Rattle.image.specs.Image.{row_length}
use Rattle.image_check.specs.Code.Places.{rows_at}
use Rattle.image_check.proofs.Loops.{rows_from}
use Rattle.image_check.proofs.windows_sound.Given as goal

abbrev pub invariant-loop-i : goal.invariant-loop-i
invariant-loop-i l = windows_sound l.registers l.program l.data_words (rows_at l.n l.s) ≡ windows_sound l.registers l.program l.data_words (rows_from (l.n - l.i) (1 + row_length * l.i) l.s)
