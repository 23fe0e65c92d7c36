-- The text of a run is what the run answers; a copy is no longer than its buffer.
use Rattle.std.specs.Prelude.{ℕ, ◌≤◌, ◌≡◌, refl, Bool, true, false, cond, List, ◌++◌, ltb, length, take, Option, None, Some, Ok, Err}
use Rattle.std.proofs.Common.{sym, ◌∙◌, subst, arith, ltb-false}
use Rattle.std.proofs.Math.Path.{ap}
use Rattle.refusal.specs.declared.Refusal.{Refusal}
use Rattle.step.specs.State.{State}
use Rattle.run.specs.declared.Counts.{Counts}
use Rattle.run.specs.Run.{Ran, run}
use Rattle.library.specs.declared.RunResult.{RunResult}
use Rattle.library.specs.declared.Sizes.{Sizes}
use Rattle.library.specs.Buffers.{Buffers, fields_in}
use Rattle.library.specs.Calls.{unless, run_refusal, run_answer}
use Rattle.library.proofs.InPlace.{run_in_place}
use Rattle.library.specs.Promises.{run_answered, RunPromise}
use Rattle.report.specs.Report.{row_lines, counts_line, report_of, refusal_line}
use Rattle.report_text.specs.Texts.{tally, TextPromise}
use Rattle.batch.specs.Output.{run_text, bytes_copied}

refused_text : (x : Option Refusal) (r : Ran) (e : Refusal) → (run_answered (unless x r.notes)).answer ≡ Err e → refusal_line e ≡ run_text x r
unfolding run_answered unless run_text
refused_text None r e h = let z : ◌≡◌ {A = ℕ} 0 1 = cc in absurd (omega arith)
refused_text (Some d) r e h = let q : d ≡ e = cc in rw q

counted_text : (x : Option Refusal) (r : Ran) (s : State) (c : Counts) → (run_answered (unless x r.notes)).answer ≡ Ok c
    → (x ≡ None → s ≡ r.state)
    → row_lines s.table (tally c (run_answered (unless x r.notes)).own) s.rows ++ counts_line c s.table.users.flag ≡ run_text x r
unfolding run_answered unless run_text report_of
counted_text None r s c h l = let q : r.notes.counts ≡ c = cc in rw (l refl, ← q)
counted_text (Some d) r s c h l = let z : ◌≡◌ {A = ℕ} 0 1 = cc in absurd (omega arith)

module _ (n : Sizes) (b b' : Buffers) (l : List ℕ) (a : RunResult) (runs : RunPromise n b l a b') where
  -- a refused run
  pub run_refused : (e : Refusal) → a.answer ≡ Err e → refusal_line e ≡ run_text (run_refusal n b l) (run l (fields_in n b))
  unfolding run_answer
  run_refused e q = refused_text (run_refusal n b l) (run l (fields_in n b)) e (ap (λ (x : RunResult). x.answer) (sym runs.answer) ∙ q)

  -- a run that none stops, from what it answers and leaves
  pub run_counted : (c : Counts) → a.answer ≡ Ok c
      → row_lines b'.table (tally c a.own) (take n.rows b'.rows) ++ counts_line c b'.table.users.flag
      ≡ run_text (run_refusal n b l) (run l (fields_in n b))
  unfolding run_answer fields_in
  run_counted c q =
      ap (λ (x : RunResult). row_lines b'.table (tally c x.own) (take n.rows b'.rows) ++ counts_line c b'.table.users.flag)
      runs.answer
      ∙ counted_text (run_refusal n b l) (run l (fields_in n b)) (fields_in n b') c (ap (λ (x : RunResult). x.answer) (sym runs.answer) ∙ q)
      (λ e. ap (fields_in n) runs.leaves ∙ run_in_place n b l e)

-- the promise of a text by another term for it
pub promised_as : (s t buffer : List ℕ) (r : ℕ) (after : List ℕ) → s ≡ t → TextPromise s buffer r after → TextPromise t buffer r after
promised_as s t buffer r after e p = subst (λ (l : List ℕ). TextPromise l buffer r after) e p

-- never more than the buffer has
pub copied_fits : (text buffer : List ℕ) (n : ℕ) → n ≡ bytes_copied text buffer → n ≤ length buffer
unfolding bytes_copied
copied_fits text buffer n is = go (ltb (length buffer) (length text)) refl is
  where
    go : (short : Bool) → ltb (length buffer) (length text) ≡ short → n ≡ cond short 0 (length text) → n ≤ length buffer
    go true e h = omega arith
    go false e h = omega (arith, ltb-false (length buffer) (length text) e)
