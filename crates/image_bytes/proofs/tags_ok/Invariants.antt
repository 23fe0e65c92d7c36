use mathlib.Core.Bool.{◌&&◌}
use mathlib.Core.Path.{◌≡◌}
use lib.ListN.{drop}
use Rattle.step.specs.Soundness.{every}
use Rattle.image_bytes.specs.Code.Scanning.{tag_test}
use Rattle.image_bytes.proofs.tags_ok.Given as goal

abbrev pub invariant-loop-t : goal.invariant-loop-t
invariant-loop-t l = (l.good && every (tag_test l.kind) (drop l.t-index l.tags)) ≡ every (tag_test l.kind) l.tags
