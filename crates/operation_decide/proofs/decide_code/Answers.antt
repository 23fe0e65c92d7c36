use mathlib.Core.Path.{refl}
use Rattle.operation.specs.declared.Trap.TheVariants as trap
use Rattle.operation.specs.Environment.{environment_of}
use Rattle.operation.specs.Decide.{decide_code}
use Rattle.step.specs.Code.Performs.{trap_course}
use Rattle.operation_decide.specs.Laws.Codes.{code_told, code_traps}
use Rattle.operation_decide.proofs.decide_code.Goals as goal

pub returns-in-Privileged : goal.returns-in-Privileged
unfolding decide_code environment_of trap_course
returns-in-Privileged c = λ row k program s d own. code_traps row _ _ _ _ _ _ _ _ _ trap.PrivilegedInstruction _ c.in-Privileged.is refl refl own

pub returns-in-Simulated : goal.returns-in-Simulated
unfolding decide_code environment_of trap_course
returns-in-Simulated c = λ row k program s d own. code_traps row _ _ _ _ _ _ _ _ _ trap.SimulatedInstruction _ c.in-Simulated.is refl refl own

pub returns-in-Svc : goal.returns-in-Svc
unfolding environment_of
returns-in-Svc c = λ row k program s d own. code_told row _ _ _ _ _ _ _ _ _ _ _ _ _ c.in-Svc.is (c.svc.ensures row _ _ _ _ _ _ refl own)

pub returns-in-Listed : goal.returns-in-Listed
returns-in-Listed c = λ row k program s d own. code_told row _ _ _ _ _ _ _ _ _ _ _ _ _ c.in-Listed.is (c.decide_listed.ensures row _ _ s d own)

pub returns-in-Unlisted : goal.returns-in-Unlisted
unfolding decide_code environment_of trap_course
returns-in-Unlisted c = λ row k program s d own. code_traps row _ _ _ _ _ _ _ _ _ trap.IllegalInstruction _ c.in-Unlisted.is refl refl own
