use Rattle.std.proofs.Common.{take, ◌≡◌}
use Rattle.run.specs.Run.{no_counts}
use Rattle.report_text.specs.Texts.{tally}
use Rattle.report_text.specs.Code.Pushes.{written}
use Rattle.report_text.specs.Laws.Rows.{Going}
use Rattle.report_text.proofs.Text.push_rows.Given as goal

abbrev pub invariant-loop-row : goal.invariant-loop-row
invariant-loop-row l = record {
  same_buffer : l.self.out.ghost_name ≡ l.initial.self.out.ghost_name;
  going : Going l.table (tally no_counts l.own) (take l.n l.fn.rows) (written l.initial.self.len l.initial.self.out.now) (written l.self.len l.self.out.now) l.row-index;
}
