use Rattle.run_next.specs.Code.Settled.{trap_by}
use Rattle.run_next.specs.Laws.Settled.{trap_default}
use Rattle.run_schedule.proofs.next.trap_by.Goals as goal

pub returns-in-IllegalInstruction : goal.returns-in-IllegalInstruction
unfolding trap_by
returns-in-IllegalInstruction c = simp c.in-IllegalInstruction.is

pub returns-in-ProtectionViolation : goal.returns-in-ProtectionViolation
unfolding trap_by
returns-in-ProtectionViolation c = simp c.in-ProtectionViolation.is

pub returns-in-PrivilegedInstruction : goal.returns-in-PrivilegedInstruction
unfolding trap_by
returns-in-PrivilegedInstruction c = simp c.in-PrivilegedInstruction.is

pub returns-in-SupervisorCall : goal.returns-in-SupervisorCall
unfolding trap_by
returns-in-SupervisorCall c = simp c.in-SupervisorCall.is

pub returns-in-SimulatedInstruction : goal.returns-in-SimulatedInstruction
unfolding trap_by
returns-in-SimulatedInstruction c = simp c.in-SimulatedInstruction.is

pub returns-in-DataException : goal.returns-in-DataException
unfolding trap_by
returns-in-DataException c = simp c.in-DataException.is

pub returns-in_default : goal.returns-in_default
returns-in_default c =
    let d = c.in_default in
    trap_default _ d.not-IllegalInstruction d.not-ProtectionViolation d.not-PrivilegedInstruction d.not-SupervisorCall d.not-SimulatedInstruction d.not-DataException
