use Rattle.operation.specs.Perform.{create_waits}
use Rattle.operation_control.proofs.create_waits.Goals as goal

pub returns-then-holds : goal.returns-then-holds
unfolding create_waits
returns-then-holds c = simp c.if-holds.true

pub returns : goal.returns
unfolding create_waits
returns c = simp c.if-holds.false
