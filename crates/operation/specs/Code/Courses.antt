-- The course of a step that traps.
use Rattle.operation.specs.declared.Trap.{Trap}
use Rattle.operation.specs.declared.Trap.TheVariants as trap
use Rattle.operation.specs.declared.Course.{Course}
use Rattle.operation.specs.declared.Course.TheVariants as go

unfoldable pub trap_course : Trap → Course
trap_course trap.CreateFault = go.CreateFault
trap_course trap.IllegalInstruction = go.IllegalInstruction
trap_course trap.ProtectionViolation = go.ProtectionViolation
trap_course trap.PrivilegedInstruction = go.PrivilegedInstruction
trap_course trap.SupervisorCall = go.SupervisorCall
trap_course trap.SimulatedInstruction = go.SimulatedInstruction
trap_course trap.DataException = go.DataException
