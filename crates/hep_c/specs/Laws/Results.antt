-- What a run leaves in every lent slice, from what each of its calls promises.
use Rattle.std.specs.Prelude.{ℕ, ◌≡◌, true, List, ◌++◌, length, take, None, Result}
use Rattle.std.proofs.Math.Path.{ap}
use Rattle.std.proofs.Common.{◌∙◌}
use Rattle.window.specs.declared.Row.{Row}
use Rattle.step.specs.declared.ProcessTable.{ProcessTable}
use Rattle.step.specs.State.{State}
use Rattle.run.specs.declared.Counts.{Counts}
use Rattle.run.specs.Run.{Tally, Ran, run}
use Rattle.library.specs.declared.RunResult.{RunResult}
use Rattle.image.specs.Codec.{Bytes}
use Rattle.image.specs.Image.{Image, good, state_of, decode, encode}
use Rattle.image.specs.Fields.{over}
use Rattle.image_write.specs.Code.Lengths.{length_written}
use Rattle.library.specs.declared.Sizes.{Sizes}
use Rattle.library.specs.Buffers.{Buffers, room_of, fits, sizes_of, fields_in, holding}
use Rattle.library.specs.Calls.{answers, unless}
use Rattle.library.specs.Held.{lent_buffers, room_from}
use Rattle.library.specs.Promises.{ReadPromise, RunPromise, WritePromise}
use Rattle.report.specs.Report.{row_lines, counts_line, report_of}
use Rattle.report_text.specs.Texts.{tally, TextPromise}
use Rattle.report_text.specs.Laws.Texts.{put_whole}
use Rattle.hep_c.specs.Answers.{Slices, slices, image_run_refusal, image_run_answer, counts_listed, image_run_left, counts_answered}
use Rattle.hep_c.specs.Laws.Fitting.{Accepted, accepted}
use Rattle.hep_c.specs.Laws.Runs.{counted, fields₂, held₂, wrote, image_written}
use Rattle.window.specs.Limits.{tasks}
use Rattle.refusal.specs.declared.Refusal.{Refusal}

module _ (image schedule : List ℕ) (i : Image) (n : Sizes) (bytes : Bytes image) (d : decode image ≡ good i) (sizes : sizes_of (state_of i) ≡ n)
    (rows : List Row) (t₀ : ProcessTable) (seven : length rows ≡ 7)
    (constant_tags constant_words tags words program data_tags data_words output counts report : List ℕ)
    (fine : image_run_refusal image schedule n (slices constant_tags constant_words tags words program data_tags data_words output counts report) ≡ None) where
  abbrev lent : Slices
  lent = slices constant_tags constant_words tags words program data_tags data_words output counts report

  abbrev ran : Ran
  ran = run schedule (state_of i)

  abbrev buffers₀ : Buffers
  buffers₀ = lent_buffers rows t₀ constant_tags constant_words tags words program data_tags data_words

  taken : Accepted schedule n (room_from tasks (length constant_tags) (length constant_words) (length tags) (length words) (length program) (length data_tags) (length data_words)) (length image) (length output) (length counts) (length report)
  unfolding image_run_refusal
  taken = accepted schedule n _ (length image) (length output) (length counts) (length report) fine

  fit₀ : fits n (room_of buffers₀) ≡ true
  unfolding room_of
  fit₀ = rw seven taken.memories_fit

  answered : image_run_answer image schedule lent (decode image) ≡ answers ran
  unfolding image_run_answer unless
  answered = rw (d, sizes, fine)

  -- after the reading, and after the run
  module _ (rows₁ rows₂ : List Row) (t₁ t₂ : ProcessTable) (constant_tags₁ constant_words₁ tags₁ words₁ program₁ data_tags₁ data_words₁ tags₂ words₂ data_tags₂ data_words₂ : List ℕ)
      (x : Result Sizes Refusal) (reads : ReadPromise buffers₀ image x (lent_buffers rows₁ t₁ constant_tags₁ constant_words₁ tags₁ words₁ program₁ data_tags₁ data_words₁))
      (y : RunResult) (runs : RunPromise n (lent_buffers rows₁ t₁ constant_tags₁ constant_words₁ tags₁ words₁ program₁ data_tags₁ data_words₁) schedule y (lent_buffers rows₂ t₂ constant_tags₁ constant_words₁ tags₂ words₂ program₁ data_tags₂ data_words₂)) where
    abbrev buffers₁ : Buffers
    buffers₁ = lent_buffers rows₁ t₁ constant_tags₁ constant_words₁ tags₁ words₁ program₁ data_tags₁ data_words₁

    abbrev buffers₂ : Buffers
    buffers₂ = lent_buffers rows₂ t₂ constant_tags₁ constant_words₁ tags₂ words₂ program₁ data_tags₂ data_words₂

    held : buffers₂ ≡ holding ran.state buffers₀
    held = held₂ image schedule i n bytes d sizes buffers₀ buffers₁ buffers₂ fit₀ taken.schedule_taken x reads y runs

    tally_is : tally (counts_answered y.answer) y.own ≡ ran.notes
    unfolding counts_answered
    tally_is = rw (counted image schedule i n bytes d sizes buffers₀ buffers₁ buffers₂ fit₀ taken.schedule_taken x reads y runs)

    table_is : t₂ ≡ ran.state.table
    unfolding holding
    table_is = ap (λ (b : Buffers). b.table) held

    rows_are : take n.rows rows₂ ≡ ran.state.rows
    unfolding fields_in
    rows_are = ap (λ (s : State). s.rows) (fields₂ image schedule i n bytes d sizes buffers₀ buffers₁ buffers₂ fit₀ taken.schedule_taken x reads y runs)

    -- the report of the state after the run
    pub report_is : (c : Counts) → c ≡ counts_answered y.answer
        → row_lines t₂ (tally c y.own) (take n.rows rows₂) ++ counts_line c t₂.users.flag ≡ report_of ran
    unfolding report_of
    report_is c e =
        rw (e, table_is, rows_are)
        (ap (λ (x : Tally). row_lines ran.state.table x ran.state.rows ++ counts_line x.counts ran.state.table.users.flag) tally_is)

    module _ (w : Result ℕ Refusal) (output₂ : List ℕ) (writes : WritePromise n buffers₂ w output output₂)
        (c : Counts) (c-is : c ≡ counts_answered y.answer) (k : ℕ) (k-is : k ≡ length_written w)
        (m : ℕ) (report₂ : List ℕ)
        (text : TextPromise (row_lines t₂ (tally c y.own) (take n.rows rows₂) ++ counts_line c t₂.users.flag) report m report₂)
        (counts₂ : List ℕ) (put : counts₂ ≡ over (counts_listed (tally c y.own) k m) counts) where
      reported : (m ≡ length (report_of ran)) × (report₂ ≡ over (report_of ran) report)
      reported = rw (← report_is c c-is) (put_whole _ report m report₂ text taken.report_fits)

      written_length : k ≡ length (encode ran.state)
      unfolding length_written
      written_length =
          k-is ∙ rw (wrote image schedule i n bytes d sizes buffers₀ buffers₁ buffers₂ fit₀ taken.schedule_taken x reads y runs output output₂ w taken.output_fits writes)

      output_is : output₂ ≡ over (encode ran.state) output
      output_is = image_written image schedule i n bytes d sizes buffers₀ buffers₁ buffers₂ fit₀ taken.schedule_taken x reads y runs output output₂ w taken.output_fits writes

      counts_left : counts₂ ≡ over (counts_listed ran.notes (length (encode ran.state)) (length (report_of ran))) counts
      counts_left = put ∙ rw (c-is, tally_is, written_length, reported.0)

      -- every lent slice
      pub all_left : slices constant_tags₁ constant_words₁ tags₂ words₂ program₁ data_tags₂ data_words₂ output₂ counts₂ report₂ ≡ image_run_left (image_run_answer image schedule lent (decode image)) lent
      unfolding image_run_left holding
      all_left =
          rw (
            answered,
            ap (λ (b : Buffers). b.constant_tags) held,
            ap (λ (b : Buffers). b.constant_words) held,
            ap (λ (b : Buffers). b.register_tags) held,
            ap (λ (b : Buffers). b.register_words) held,
            ap (λ (b : Buffers). b.program) held,
            ap (λ (b : Buffers). b.data_tags) held,
            ap (λ (b : Buffers). b.data_words) held,
            output_is,
            counts_left,
            reported.1,
          )
