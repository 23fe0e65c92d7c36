-- Rows and a process table of no task, for a caller that owns them and has read no image yet.
use Rattle.std.specs.Prelude.{List, replicate}
use Rattle.window.specs.declared.Row.{Row}
use Rattle.window.specs.Limits.{tasks}
use Rattle.step.specs.declared.Queue.{Queue}
use Rattle.step.specs.declared.ProcessTable.{ProcessTable}
use Rattle.step.specs.Act.{table_of}
use Rattle.step.specs.Queues.{places, queue_count, pt_count}
use Rattle.step.specs.Step.{no_trap}

-- a row of no task
unfoldable pub empty_row : Row
empty_row = record { task = 0; cb = 0; rb = 0; rl = 0; pb = 0; pl = 0; db = 0; dl = 0; kind = no_trap; psw = 0 }

-- seven rows of no task
unfoldable pub no_rows : List Row
no_rows = replicate tasks empty_row

-- a queue without a process
unfoldable pub empty_queue : Queue
empty_queue = record { pts = replicate places 0; head = 0; len = 0 }

-- the process table of such queues; the create fault flag is down
unfoldable pub no_processes : ProcessTable
no_processes = table_of (replicate pt_count 0) (replicate queue_count empty_queue) 0
