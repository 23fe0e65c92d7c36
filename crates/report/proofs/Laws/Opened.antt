-- All definitions up to the batch program at once, for trials that compute.
use Rattle.std.specs.Prelude.{ℕ}
use Rattle.image.proofs.Laws.Opened.{opened as below}
use Rattle.report.specs.Report.{decimal_by, decimal, hex_digit, hex, kind_text, pc_text, counts_text, row_line, row_lines, counts_line, report_of, refusal_line, item_codec, schedule_codec, output_run, output_read, output_scheduled, output_of}

-- naming this opens all of them
unfoldable pub opened : ℕ
unfolding below decimal_by decimal hex_digit hex kind_text pc_text counts_text row_line row_lines counts_line report_of refusal_line item_codec schedule_codec output_run output_read output_scheduled output_of
opened = 0
