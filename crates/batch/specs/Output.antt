-- What the batch program's function answers beside the output itself.
use Rattle.std.specs.Prelude.{ℕ, cond, List, ltb, length, Option, None, Some}
use Rattle.refusal.specs.declared.Refusal.{Refusal}
use Rattle.run.specs.Run.{Ran}
use Rattle.image.specs.Fields.{over}
use Rattle.report.specs.Report.{report_of, refusal_line}

-- the text of a run: refused, one line; else its report
unfoldable pub run_text : Option Refusal → Ran → List ℕ
run_text (Some e) r = refusal_line e
run_text None r = report_of r

-- how many bytes of a text go into a buffer: none where the buffer is shorter than the text
unfoldable pub bytes_copied : (text buffer : List ℕ) → ℕ
bytes_copied text buffer = cond (ltb (length buffer) (length text)) 0 (length text)

-- a buffer after a copy: the text and then what was there; unchanged where it is shorter than the text
unfoldable pub copied_into : (text buffer : List ℕ) → List ℕ
copied_into text buffer = cond (ltb (length buffer) (length text)) buffer (over text buffer)
