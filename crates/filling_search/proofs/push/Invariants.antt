use Rattle.std.proofs.Common.{◌≡◌, ◌++◌, take, drop}
use Rattle.filling_search.specs.Code.Steps.{pushed}
use Rattle.filling_search.proofs.push.Given as goal

abbrev pub invariant-loop-top : goal.invariant-loop-top
invariant-loop-top l = take l.top-index l.tops ++ pushed l.carry (drop l.top-index l.tops) ≡ pushed l.n l.initial.tops
