use Rattle.operation.specs.Code.Courses.{trap_course}
use Rattle.operation.proofs.CourseFromTrap.from.Goals as goal

pub returns-in-CreateFault : goal.returns-in-CreateFault
unfolding trap_course
returns-in-CreateFault c = simp c.in-CreateFault.is

pub returns-in-IllegalInstruction : goal.returns-in-IllegalInstruction
unfolding trap_course
returns-in-IllegalInstruction c = simp c.in-IllegalInstruction.is

pub returns-in-ProtectionViolation : goal.returns-in-ProtectionViolation
unfolding trap_course
returns-in-ProtectionViolation c = simp c.in-ProtectionViolation.is

pub returns-in-PrivilegedInstruction : goal.returns-in-PrivilegedInstruction
unfolding trap_course
returns-in-PrivilegedInstruction c = simp c.in-PrivilegedInstruction.is

pub returns-in-SupervisorCall : goal.returns-in-SupervisorCall
unfolding trap_course
returns-in-SupervisorCall c = simp c.in-SupervisorCall.is

pub returns-in-SimulatedInstruction : goal.returns-in-SimulatedInstruction
unfolding trap_course
returns-in-SimulatedInstruction c = simp c.in-SimulatedInstruction.is

pub returns-in-DataException : goal.returns-in-DataException
unfolding trap_course
returns-in-DataException c = simp c.in-DataException.is
