use Rattle.operand.specs.Field.{illegal_field}
use Rattle.operation.proofs.Laws.Found.{told}
use Rattle.operation_control.specs.Laws.Performed.{svc_illegal, svc_traps}
use Rattle.operation_control.proofs.svc.Goals as goal

pub returns-then-illegal_fields : goal.returns-then-illegal_fields
unfolding illegal_field
returns-then-illegal_fields c = λ row v code first fresh m n e own. svc_illegal v _ _ _ _ _ e (told c.illegal_fields.ensures c.if-illegal_fields.true) row _ _ _ m n own

pub returns : goal.returns
unfolding illegal_field
returns c = λ row v code first fresh m n e own. svc_traps v _ _ _ _ _ e (told c.illegal_fields.ensures c.if-illegal_fields.false) row _ _ _ m n _ _ c.set_at.ensures c.next-past.ensures
