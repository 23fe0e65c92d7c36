-- Demand 3 of the report: where two whole runs agree on a task, its line is the same in both outputs of the batch program.
use Rattle.std.specs.Prelude.{ℕ, ◌≡◌, List}
use Rattle.run.specs.Run.{Ran, run}
use Rattle.image.specs.Image.{Image, state_of}
use Rattle.image.specs.Demand3.{WholeRun, Agreed}
use Rattle.image.proofs.Demand3.{demand_3, demand_3_counts}
use Rattle.report.specs.Report.{output_of}
use Rattle.report.specs.Lines.{WholeInput, task_line, Printed}
use Rattle.report.proofs.Laws.Lines.{run_counted, line_same, output_printed}

-- the line of task t after two runs and in their outputs
pub record SameLine (t : ℕ) (x x' : Ran) (output output' : List ℕ) : Type 0 where
  -- the same, or none in both
  pub same : task_line t x ≡ task_line t x'
  pub printed : Printed t x output
  pub printed' : Printed t x' output'

pub report_demand_3 : (t : ℕ) (input input' bytes bytes' schedule schedule' : List ℕ) (i i' : Image)
    → WholeInput input schedule bytes → WholeInput input' schedule' bytes'
    → WholeRun bytes schedule i → WholeRun bytes' schedule' i' → Agreed t schedule schedule' i i'
    → SameLine t (run schedule (state_of i)) (run schedule' (state_of i')) (output_of input) (output_of input')
report_demand_3 t input input' b b' ts us i i' w w' r r' a = record {
  same =
      line_same t (run ts (state_of i)) (run us (state_of i')) (run_counted b ts i r.string r.accepted) (run_counted b' us i' r'.string r'.accepted)
      (demand_3 t b b' ts us i i' r r' a).owned (demand_3_counts t b b' ts us i i' r r' a);
  printed = output_printed t input ts b i w r.accepted r.scheduled;
  printed' = output_printed t input' us b' i' w' r'.accepted r'.scheduled;
}
