-- A run over one item: how it ended is told by its counts and, of a trap, by the trap record of the task's row.
use Rattle.std.specs.Prelude.{cond, List, ℕ, ◌%◌, eqb, get_or, Result, Ok, Err}
use Rattle.window.specs.Limits.{tasks}
use Rattle.window.specs.declared.Row.{Row}
use Rattle.operation.specs.declared.Trap.{Trap}
use Rattle.operation.specs.declared.Trap.TheVariants.{CreateFault, IllegalInstruction, ProtectionViolation, PrivilegedInstruction, SupervisorCall, SimulatedInstruction, DataException}
use Rattle.step.specs.declared.Ending.{Ending}
use Rattle.step.specs.declared.Ending.TheVariants.{Executed, Waved, Trapped, Idle}
use Rattle.run.specs.declared.Counts.{Counts}
use Rattle.library.specs.Empty.{empty_row}
use Rattle.refusal.specs.declared.Refusal.{Refusal}

-- the trap of a kind; of any other number the last
unfoldable pub trap_of : ℕ → Trap
trap_of k =
    cond (eqb k 0x00) CreateFault (cond (eqb k 0x12) IllegalInstruction (cond (eqb k 0x14) ProtectionViolation
    (cond (eqb k 0x16) PrivilegedInstruction (cond (eqb k 0x1A) SupervisorCall (cond (eqb k 0x1C) SimulatedInstruction DataException)))))

-- how the one item ended, the task having this row afterwards
unfoldable pub ending_of : Counts → Row → Ending
ending_of c r =
    cond (eqb c.executed 1) Executed (cond (eqb c.waved 1) Waved (cond (eqb c.idle 1) Idle (Trapped (trap_of r.kind) r.psw)))

-- what a step answers, by what the run answered and the row
unfoldable pub answer_of : Result Counts Refusal → Row → Result Ending Refusal
answer_of (Err e) r = Err e
answer_of (Ok c) r = Ok (ending_of c r)

-- row i of seven, counted round
abbrev pub row_at : List Row → ℕ → Row
row_at rows i = get_or rows (i % tasks) empty_row
