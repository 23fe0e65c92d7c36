use Rattle.std.proofs.Common.{◌≡◌, ◌+◌, min, drop}
use Rattle.window.specs.Limits.{most_registers}
use Rattle.filling.specs.Filling.{total}
use Rattle.filling_search.proofs.capped.Given as goal

abbrev pub invariant-loop-top : goal.invariant-loop-top
invariant-loop-top l = min most_registers (total l.tops) ≡ min most_registers (l.sum + total (drop l.top-index l.tops))
