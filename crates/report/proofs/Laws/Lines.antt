-- The line of a task in a report: where it stands, and that it goes by what the task owns.
use Rattle.std.specs.Prelude.{ℕ, ◌+◌, ◌≡◌, true, length}
use Rattle.std.proofs.Math.Path.{refl, sym, ap, subst}
use Rattle.std.proofs.Common.{ap₂, ◌∙◌, le-ltb, Option, None, Some}
use mathlib.Core.List.{List, [], ◌∷◌, ◌++◌, append_assoc}
use Rattle.window.specs.declared.Row.{Row}
use Rattle.step.specs.declared.Processes.{Processes}
use Rattle.step.specs.declared.ProcessTable.{ProcessTable}
use Rattle.step.specs.State.{find_row, live_count, processes_of, waiting_of}
use Rattle.step.specs.Owned.{Own, own_of, own_in, own}
use Rattle.step.proofs.LiveCounts.{Counted, sound_counted, stored_live}
use Rattle.step.proofs.Laws.Rows.{none_some, some_inj, here, there, found, find_task}
use Rattle.run.specs.Schedule.{schedule_sound}
use Rattle.run.proofs.Laws.Run.{sound_unrefused}
use Rattle.run.specs.declared.Counts.{Counts}
use Rattle.run.specs.Run.{own_counts, Ran, run}
use Rattle.run.proofs.Kept.{run_keeps_sound}
use Rattle.image.specs.Codec.{Bytes}
use Rattle.image.specs.Image.{Image, state_of, good, decode}
use Rattle.image.proofs.RoundTrips.{reads_only_sound}
use Rattle.report.specs.Report.{row_line, row_lines, report_of, most_input, output_run, output_read, output_scheduled, output_of}
use Rattle.report.specs.Lines.{WholeInput, line_of, task_line, StandsIn, Printed}

-- ---- where it stands

module _ (x : Ran) where
  abbrev line_of_lem : Row → List ℕ
  line_of_lem r = row_line x.state.table r (own_counts r.task x.notes)

  abbrev lines : List Row → List ℕ
  lines rows = row_lines x.state.table x.notes rows

  lines_found : (t : ℕ) (rows : List Row) (r : Row) → find_row t rows ≡ Some r → StandsIn x (line_of_lem r) (lines rows)
  unfolding row_lines
  lines_found t [] r e = absurd (none_some r (unfold find_row in e))
  lines_found t (y ∷ rows) r e =
      elim (found t r y rows e) [
        | here q p ↦ record { before = []; rest = lines rows; is = ap (λ (z : Row). line_of_lem z ++ lines rows) p }
        | there q k ↦
            let u = lines_found t rows r k in
            record { before = y ∷ u.before; rest = u.rest; is = ap (λ (z : List ℕ). line_of_lem y ++ z) u.is ∙ sym (append_assoc (line_of_lem y) (lines u.before) (line_of_lem r ++ u.rest)) }
      ]

  -- with more text behind
  behind_more : {line text : List ℕ} (more : List ℕ) → StandsIn x line text → StandsIn x line (text ++ more)
  behind_more {line} more u = record {
    before = u.before;
    rest = u.rest ++ more;
    is = ap (λ (z : List ℕ). z ++ more) u.is ∙ append_assoc (lines u.before) (line ++ u.rest) more ∙ ap (λ (z : List ℕ). lines u.before ++ z) (append_assoc line u.rest more);
  }

  line_printed : (t : ℕ) → Printed t x (report_of x)
  unfolding report_of task_line line_of
  line_printed t line e = go (find_row t x.state.rows) refl e
    where
      go : (o : Option Row) → find_row t x.state.rows ≡ o → line_of x.state.table x.notes o ≡ Some line → StandsIn x line (report_of x)
      go None q k = absurd (none_some line k)
      go (Some r) q k =
          subst (λ (y : List ℕ). StandsIn x y (report_of x)) (some_inj (line_of_lem r) line k)
          (behind_more _ (lines_found t x.state.rows r q))

-- ---- it goes by what the task owns, and its counts

same_count : (table table' : Processes) (t : ℕ) → Counted table → Counted table' → processes_of table t ≡ processes_of table' t → waiting_of table t ≡ waiting_of table' t
    → live_count table t ≡ live_count table' t
same_count table table' t c c' e f = stored_live table t c ∙ ap₂ ◌+◌ (ap length e) (ap length f) ∙ sym (stored_live table' t c')

line_counted : (table table' : ProcessTable) (r : Row) (c : Counts) → live_count table.users r.task ≡ live_count table'.users r.task
    → row_line table r c ≡ row_line table' r c
unfolding row_line
line_counted table table' r c e = rw e

pub line_same : (t : ℕ) (x x' : Ran) → Counted x.state.table.users → Counted x'.state.table.users
    → own t x.state ≡ own t x'.state → own_counts t x.notes ≡ own_counts t x'.notes → task_line t x ≡ task_line t x'
unfolding own task_line line_of
line_same t x x' c c' e f = go (find_row t x.state.rows) (find_row t x'.state.rows) refl e
  where
    go : (o o' : Option Row) → find_row t x.state.rows ≡ o → own_in x.state.table.users t o ≡ own_in x'.state.table.users t o'
        → line_of x.state.table x.notes o ≡ line_of x'.state.table x'.notes o'
    go None None q k = refl
    go None (Some r) q k = absurd (none_some (own_of r t x'.state.table.users.psw x'.state.table.users.queues) k)
    go (Some r) None q k = absurd (none_some (own_of r t x.state.table.users.psw x.state.table.users.queues) (sym k))
    go (Some r) (Some r') q k =
        let u = some_inj (own_of r t x.state.table.users.psw x.state.table.users.queues) (own_of r' t x'.state.table.users.psw x'.state.table.users.queues) k in
        let task : r.task ≡ t = find_task t x.state.rows r q in
        let live : live_count x.state.table.users r.task ≡ live_count x'.state.table.users r.task =
        rw task (same_count x.state.table.users x'.state.table.users t c c' (ap (λ (o : Own). o.processes) u) (ap (λ (o : Own). o.waiting) u)) in
        let counts : own_counts r.task x.notes ≡ own_counts r.task x'.notes = rw task f in
        ap (λ (l : List ℕ). Some l) (line_counted x.state.table x'.state.table r (own_counts r.task x.notes) live
        ∙ ap (row_line x'.state.table r) counts ∙ ap (λ (o : Own). row_line x'.state.table o.row (own_counts o.row.task x'.notes)) u)

-- ---- the output of a whole input

output_report : (input schedule bytes : List ℕ) (i : Image) → WholeInput input schedule bytes → decode bytes ≡ good i → schedule_sound schedule ≡ true
    → output_of input ≡ report_of (run schedule (state_of i))
unfolding output_of output_scheduled output_read output_run
output_report input schedule bytes i w d ok = rw (le-ltb most_input (length input) w.short, w.read, d, sound_unrefused schedule ok)

pub output_printed : (t : ℕ) (input schedule bytes : List ℕ) (i : Image) → WholeInput input schedule bytes → decode bytes ≡ good i → schedule_sound schedule ≡ true
    → Printed t (run schedule (state_of i)) (output_of input)
output_printed t input schedule bytes i w d ok line e =
    subst (StandsIn (run schedule (state_of i)) line) (sym (output_report input schedule bytes i w d ok)) (line_printed (run schedule (state_of i)) t line e)

pub run_counted : (bytes schedule : List ℕ) (i : Image) → Bytes bytes → decode bytes ≡ good i → Counted (run schedule (state_of i)).state.table.users
run_counted bytes schedule i hb d = sound_counted (run schedule (state_of i)).state (run_keeps_sound schedule (state_of i) (reads_only_sound bytes hb i d))
