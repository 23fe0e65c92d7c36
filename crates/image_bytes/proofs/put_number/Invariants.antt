use mathlib.Core.Path.{◌≡◌}
use Rattle.image.specs.Codec.{digits}
use Rattle.image_bytes.specs.Code.Writing.{laid}
use Rattle.image_bytes.proofs.put_number.Given as goal

abbrev pub invariant-loop-k : goal.invariant-loop-k
invariant-loop-k l = laid l.at (digits l.k l.x) l.out ≡ laid l.at (digits l.w l.v) l.initial.out
