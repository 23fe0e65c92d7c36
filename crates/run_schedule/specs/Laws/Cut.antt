-- A run of slices that are cut to their sizes is a run of the state in the buffers.
use Prim.Native.Nat.{ℕ, min, ◌≤◌}
use Rattle.std.specs.Prelude.{◌≡◌, refl, true, false, List, ◌++◌, take, drop, leb}
use Rattle.std.proofs.Common.{sym, ◌∙◌}
use Rattle.std.proofs.Math.Path.{ap}
use native.Mathlib.Omega.{arith}
use Rattle.std.proofs.Math.ListN.{length, length-take, length-drop}
use Rattle.std.proofs.lemmas.Bool.{not-false}
use Rattle.word.proofs.Laws.Bools.{and_right}
use Rattle.window.specs.Memories.{memory}
use Rattle.window.specs.declared.Row.{Row}
use Rattle.step.specs.declared.Processes.{Processes}
use Rattle.step.specs.declared.ProcessTable.{ProcessTable}
use Rattle.step.specs.Queues.{live_total}
use Rattle.step.specs.State.{State}
use Rattle.step.specs.Act.{table_of}
use Rattle.step.specs.Soundness as soundness
use Rattle.step.specs.Soundness.{every, live_sound}
use Rattle.step.proofs.Laws.Counted.{live_counted, live_made}
use Rattle.run.specs.Run.{Tally, Ran, run}
use Rattle.run.proofs.Laws.Run.{run_lengths}
use Rattle.run.specs.Schedule.{most_items, item_sound}
use Rattle.step_soundness.specs.Code.Held.{state_in, sound_in}
use Rattle.library.specs.declared.Sizes.{Sizes}
use Rattle.library.specs.declared.Rows.{Rows}
use Rattle.library.specs.Buffers.{Buffers, fits, fields_in, holding}
use Rattle.library.specs.Calls.{answers, state_refused}
use Rattle.library.specs.Held.{lent_buffers}
use Rattle.library.specs.Code.HeldRows.{held_rows}
use Rattle.library.specs.Promises.{run_answered, RunPromise}
use Rattle.library.proofs.Laws.Places.{Fitting, fitting, over_first, over_cut, over_places, drop_later}
use Rattle.library.proofs.Laws.Held.{before, lengths, room_held, accepted, accepted_live}
use Rattle.library.proofs.Laws.Numbers.{run_promise}
use Rattle.library_state.specs.Laws.Cut.{cut, cut_fields, cut_refused}
use Rattle.run_rings.specs.Code.Records.{rows_in}
use Rattle.run_next.specs.Code.Numbers.{Cells, cells, state_from}
use Rattle.run_next.specs.Code.Tally.{tally_in}
use Rattle.run_schedule.specs.declared.Carried.{Carried}
use Rattle.run_rings.specs.declared.Tasks.{Tasks}
use Rattle.run_rings.specs.Code.Laid.{no_tasks, tasks_laid}
use Rattle.run_rings.specs.Laws.Laid.{tasks_eight}
use Rattle.run_schedule.specs.Code.Carried.{open_state, Opens, Opened, Ends, users_of}
use Rattle.run_schedule.specs.Laws.Carried.{users_end, opens}
use Rattle.run_schedule.specs.Laws.Answers.{runs}

module _ (v : Rows) (table : ProcessTable) (constant_tags constant_words tags words program data_tags data_words : List ℕ) (n : Sizes) (seven : length v.at ≡ 7)
    (sound : state_refused n (before v table constant_tags constant_words tags words program data_tags data_words) ≡ false) where
  abbrev held : Buffers
  held = before v table constant_tags constant_words tags words program data_tags data_words

  abbrev given : State
  given = cut v table constant_tags constant_words tags words program data_tags data_words n

  fit : fits n (lengths v table constant_tags constant_words tags words program data_tags data_words) ≡ true
  fit = sym (ap (fits n) (room_held v table constant_tags constant_words tags words program data_tags data_words seven)) ∙ (accepted n held sound).0

  -- no size is above its buffer
  pub sizes_fit : Fitting n (lengths v table constant_tags constant_words tags words program data_tags data_words)
  sizes_fit = fitting n (lengths v table constant_tags constant_words tags words program data_tags data_words) fit

  -- the table is the one that is made of its PSWs, queues and flag
  counted : live_sound table.users ≡ true
  counted = accepted_live n held sound

  table_made : table ≡ table_of table.users.psw table.users.queues table.users.flag
  table_made = ap (λ (u : Processes). record { users = u }) (live_made table.users counted)

  pub total_counted : table.users.count ≡ live_total table.users.queues
  total_counted = (live_counted table.users counted).1

  -- the memories that are cut
  abbrev pub cut_cells : Cells
  cut_cells =
      cells (memory (take n.constants constant_tags) (take n.constants constant_words)) (memory (take n.registers tags) (take n.registers words)) (take n.program program)
      (memory (take n.data_words data_tags) (take n.data_words data_words))

  open_given : open_state (take n.rows v.at) table.users cut_cells ≡ given
  unfolding open_state state_in
  open_given = ap (λ (t : ProcessTable). cut v t constant_tags constant_words tags words program data_tags data_words n) (sym table_made)

  -- the state that is cut is sound
  pub cut_sound : soundness.sound (open_state (take n.rows v.at) table.users cut_cells) ≡ true
  unfolding sound_in
  cut_sound =
      ap soundness.sound open_given
      ∙ and_right (leb n.rows 7) (soundness.sound given)
      (not-false (sound_in n.rows given) (cut_refused v table constant_tags constant_words tags words program data_tags data_words n seven fit ∙ sound))

  -- the rows in numbers
  pub cut_opens : (x : Tasks) → x ≡ tasks_laid 7 1 (take n.rows v.at) no_tasks → Opens (take n.rows v.at) table.users x cut_cells
  cut_opens x e = opens (take n.rows v.at) table.users cut_cells cut_sound x e total_counted

  pub cut_opened : (x : Tasks) → x ≡ tasks_laid 7 1 (take n.rows v.at) no_tasks → Opened table.users x cut_cells
  cut_opened x e = record {
    rows = take n.rows v.at;
    wide = ap (λ (y : Tasks). length y.spans) e ∙ (tasks_eight (take n.rows v.at) 7 1 no_tasks (omega arith) (record { kinds = refl; stored = refl; spans = refl })).spans;
    opens = cut_opens x e;
  }

  pub rows_few : n.rows ≤ length v.at
  rows_few = let h : n.rows ≤ min v.n 7 = sizes_fit.rows in omega (arith, h, seven)

  -- the rows that are not held stay
  pub rows_beyond : (rows' : List Row) → drop n.rows rows' ≡ drop n.rows v.at → drop v.n rows' ≡ drop v.n v.at
  rows_beyond rows' d = let h : n.rows ≤ min v.n 7 = sizes_fit.rows in drop_later n.rows v.n v.at rows' (omega (arith, h)) d

  module _ (l : List ℕ) (rows' : List Row) (table' : ProcessTable) (tally : Tally) (tags' words' data_tags' data_words' : List ℕ) where
    abbrev cut_from : ProcessTable → State
    cut_from t = state_in rows' n.rows t (memory (take n.constants constant_tags) (take n.constants constant_words)) tags' words' (take n.program program) data_tags' data_words'

    abbrev cut_after : State
    cut_after = cut_from table'

    abbrev after : Buffers
    after =
        lent_buffers (take v.n rows') table' constant_tags constant_words (tags' ++ drop n.registers tags) (words' ++ drop n.registers words) program
        (data_tags' ++ drop n.data_words data_tags) (data_words' ++ drop n.data_words data_words)

    -- what the numbers say at the end is the run's state
    pub ran_cut : (spans : List ℕ) (r : Carried)
        → Ends (take n.rows v.at) spans l (open_state (take n.rows v.at) table.users cut_cells) r
        (cells (memory (take n.constants constant_tags) (take n.constants constant_words)) (memory tags' words') (take n.program program) (memory data_tags' data_words'))
        → take n.rows rows' ≡ rows_in r.kinds r.stored (take n.rows v.at) → table' ≡ record { users = users_of r } → tally ≡ tally_in r.tally
        → record { state = cut_after; notes = tally } ≡ run l given
    unfolding state_in state_from
    ran_cut spans r e k t q =
        rw (k, t ∙ users_end (take n.rows v.at) spans r _ e.numbers, q) e.ran ∙ ap (run l) open_given

    -- there are seven rows still
    pub rows_left : record { state = cut_after; notes = tally } ≡ run l given → drop n.rows rows' ≡ drop n.rows v.at → length rows' ≡ 7
    unfolding state_in
    rows_left s d =
        let h : n.rows ≤ min v.n 7 = sizes_fit.rows in
        let t : length (take n.rows rows') ≡ length (take n.rows v.at) = ap (λ (y : Ran). length y.state.rows) s ∙ (run_lengths l given).rows in
        omega (
          arith,
          seven,
          h,
          t,
          length-take n.rows rows',
          length-take n.rows v.at,
          length-drop n.rows rows',
          length-drop n.rows v.at,
          ap length d,
        )

    module _ (k₁ : length tags' ≡ length (take n.registers tags)) (k₂ : length words' ≡ length (take n.registers words))
        (k₃ : length data_tags' ≡ length (take n.data_words data_tags)) (k₄ : length data_words' ≡ length (take n.data_words data_words)) where
      held_after_lem : length rows' ≡ 7 → drop n.rows rows' ≡ drop n.rows v.at → after ≡ holding cut_after held
      unfolding holding state_in held_rows
      held_after_lem i d =
          let f = sizes_fit in
          let h : n.rows ≤ min v.n 7 = f.rows in
          rw (
            ← over_places n.rows v.n v.at rows' (omega (arith, h)) (omega (arith, h, i)) d (omega (arith, h, seven)),
            over_first n.constants constant_tags f.constant_tags,
            over_first n.constants constant_words f.constant_words,
            ← over_cut n.registers tags tags' k₁ f.register_tags,
            ← over_cut n.registers words words' k₂ f.register_words,
            over_first n.program program f.program,
            ← over_cut n.data_words data_tags data_tags' k₃ f.data_tags,
            ← over_cut n.data_words data_words data_words' k₄ f.data_words,
          )

      -- what the items leave of the cut slices is what a run leaves of the buffers
      pub run_cuts : length l ≤ most_items → every item_sound l ≡ true → record { state = cut_after; notes = tally } ≡ run l given → drop n.rows rows' ≡ drop n.rows v.at
          → RunPromise n held l (run_answered (answers tally)) after
      run_cuts m i s d =
          let h : n.rows ≤ min v.n 7 = sizes_fit.rows in
          let q : run l (fields_in n held) ≡ record { state = cut_after; notes = tally } = ap (run l) (sym (cut_fields v table constant_tags constant_words tags words program data_tags data_words n (omega (arith, h)))) ∙ sym s in
          let p = runs n held l sound m i in
          run_promise (ap (λ (y : Ran). run_answered (answers y.notes)) (sym q) ∙ p.answer)
          (held_after_lem (rows_left s d) d ∙ ap (λ (y : Ran). holding y.state held) (sym q) ∙ p.leaves)
