-- The lines of rows, one after the other.
use Rattle.std.specs.Prelude.{ℕ, ◌+◌, ◌*◌, ◌≤◌, ◌<◌, ◌≡◌, refl, List, [], ◌∷◌, ◌++◌, length, get_or, drop}
use Rattle.std.proofs.Math.Path.{ap}
use Rattle.std.proofs.Common.{sym, ◌∙◌, add-one, arith, length-append, drop_of_length-le}
use Rattle.std.proofs.Math.Seq.{drop-cons}
use Rattle.window.specs.declared.Row.{Row}
use Rattle.step.specs.declared.ProcessTable.{ProcessTable}
use Rattle.run.specs.declared.Counts.{Counts}
use Rattle.run.specs.Run.{no_counts, Tally, own_counts}
use Rattle.report.specs.Report.{row_line, row_lines}
use Rattle.report_text.specs.Texts.{longest_row, tally}
use Rattle.report_text.specs.Code.Pushes.{Text, appended}
use Rattle.report_text.specs.Laws.Texts.{appended_twice, appended_none}

-- i of the rows are written: from the text at the start to the text now
pub record Going (table : ProcessTable) (own : Tally) (rows : List Row) (start now : Text) (i : ℕ) : Type 0 where
  pub text : appended now (row_lines table own (drop i rows)) ≡ appended start (row_lines table own rows)
  pub bound : length (row_lines table own rows) ≤ i * longest_row + length (row_lines table own (drop i rows))

module _ (table : ProcessTable) (own : Tally) (rows : List Row) (start : Text) where
  abbrev line : Row → List ℕ
  line r = row_line table r (own_counts r.task own)

  pub starts : Going table own rows start start 0
  starts = record { text = refl; bound = omega arith }

  next : (i : ℕ) (d : Row) → i < length rows → row_lines table own (drop i rows) ≡ line (get_or rows i d) ++ row_lines table own (drop (i + 1) rows)
  unfolding row_lines
  next i d h = rw (add-one, drop-cons rows i d h)

  pub goes : (now after : Text) (i : ℕ) (d row : Row) (c : Counts) → Going table own rows start now i → i < length rows → get_or rows i d ≡ row
      → c ≡ own_counts row.task own
      → length (row_line table row c) ≤ longest_row → after ≡ appended now (row_line table row c) → Going table own rows start after (i + 1)
  goes now after i d row c g h r o b e =
      let n : row_lines table own (drop i rows) ≡ row_line table row c ++ row_lines table own (drop (i + 1) rows) =
      next i d h ∙ ap (λ x. line x ++ row_lines table own (drop (i + 1) rows)) r
      ∙ ap (λ (x : Counts). row_line table row x ++ row_lines table own (drop (i + 1) rows)) (sym o) in
      record {
        text = rw (e, appended_twice, ← n) g.text;
        bound = omega (arith, g.bound, ap length n, length-append (row_line table row c) (row_lines table own (drop (i + 1) rows)));
      }

  past : (i : ℕ) → length rows ≤ i → row_lines table own (drop i rows) ≡ []
  unfolding row_lines
  past i h = ap (row_lines table own) (drop_of_length-le rows h)

  pub ends : (now : Text) (i : ℕ) → Going table own rows start now i → length rows ≤ i → i ≤ 7
      → (length (row_lines table own rows) ≤ 7 * longest_row) × (now ≡ appended start (row_lines table own rows))
  ends now i g h k = (
    omega (arith, g.bound, ap length (past i h)),
    appended_none now ∙ (ap (appended now) (sym (past i h)) ∙ g.text),
  )

-- they go by the own counts alone
pub lines_own : (table : ProcessTable) (c : Counts) (own : List Counts) (rows : List Row)
    → row_lines table (tally no_counts own) rows ≡ row_lines table (tally c own) rows
unfolding row_lines own_counts
lines_own table c own [] = refl
lines_own table c own (r ∷ rows) = ap (λ (l : List ℕ). row_line table r (get_or own r.task no_counts) ++ l) (lines_own table c own rows)
