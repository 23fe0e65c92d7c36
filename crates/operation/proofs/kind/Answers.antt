use Rattle.operation.specs.Environment.{kind_of}
use Rattle.operation.proofs.kind.Goals as goal

pub returns-in-CreateFault : goal.returns-in-CreateFault
unfolding kind_of
returns-in-CreateFault c = simp c.in-CreateFault.is

pub returns-in-IllegalInstruction : goal.returns-in-IllegalInstruction
unfolding kind_of
returns-in-IllegalInstruction c = simp c.in-IllegalInstruction.is

pub returns-in-ProtectionViolation : goal.returns-in-ProtectionViolation
unfolding kind_of
returns-in-ProtectionViolation c = simp c.in-ProtectionViolation.is

pub returns-in-PrivilegedInstruction : goal.returns-in-PrivilegedInstruction
unfolding kind_of
returns-in-PrivilegedInstruction c = simp c.in-PrivilegedInstruction.is

pub returns-in-SupervisorCall : goal.returns-in-SupervisorCall
unfolding kind_of
returns-in-SupervisorCall c = simp c.in-SupervisorCall.is

pub returns-in-SimulatedInstruction : goal.returns-in-SimulatedInstruction
unfolding kind_of
returns-in-SimulatedInstruction c = simp c.in-SimulatedInstruction.is

pub returns-in-DataException : goal.returns-in-DataException
unfolding kind_of
returns-in-DataException c = simp c.in-DataException.is
