use mathlib.Core.Path.{refl, sym, ap}
use lib.Seq.{length-take-le}
use Rattle.library.specs.Code.HeldRows.{held_rows}
use Rattle.run.specs.Run.{Ran}
use Rattle.run_next.specs.Code.Tally.{tally_in}
use Rattle.library.specs.Promises.{run_answered}
use Rattle.step.specs.declared.Processes.{Processes}
use Rattle.run_rings.specs.Laws.Rows.{with_take, with_drop}
use Rattle.run_schedule.specs.Laws.Carried.{lens_end, small_counts, small_own, tallies}
use Rattle.run_schedule.specs.Laws.Cut.{sizes_fit, cut_opened, rows_few, ran_cut, rows_left, rows_beyond, run_cuts, cut_opens}
use Rattle.run_schedule.proofs.run_cut.Goals as goal

pub slice_bounds-run_items-end : goal.slice_bounds-run_items-end
slice_bounds-run_items-end c = let a = c.args in let seven = c.well_formed.0.1.1.0.1.0.1 in let f = sizes_fit a.rows a.table a.constant_tags.now a.constant_words.now a.register_tags.now a.register_words.now a.program.now a.data_tags.now a.data_words.now a.n seven c.requires.0 in sym (length-take-le a.n.constants a.constant_tags.now f.constant_tags)

pub slice_bounds-run_items-end-2 : goal.slice_bounds-run_items-end-2
slice_bounds-run_items-end-2 c = let a = c.args in let seven = c.well_formed.0.1.1.0.1.0.1 in let f = sizes_fit a.rows a.table a.constant_tags.now a.constant_words.now a.register_tags.now a.register_words.now a.program.now a.data_tags.now a.data_words.now a.n seven c.requires.0 in sym (length-take-le a.n.constants a.constant_words.now f.constant_words)

pub slice_bounds-run_items-end-3 : goal.slice_bounds-run_items-end-3
slice_bounds-run_items-end-3 c = let a = c.args in let seven = c.well_formed.0.1.1.0.1.0.1 in let f = sizes_fit a.rows a.table a.constant_tags.now a.constant_words.now a.register_tags.now a.register_words.now a.program.now a.data_tags.now a.data_words.now a.n seven c.requires.0 in f.register_tags

pub slice_bounds-run_items-end-4 : goal.slice_bounds-run_items-end-4
slice_bounds-run_items-end-4 c = let a = c.args in let seven = c.well_formed.0.1.1.0.1.0.1 in let f = sizes_fit a.rows a.table a.constant_tags.now a.constant_words.now a.register_tags.now a.register_words.now a.program.now a.data_tags.now a.data_words.now a.n seven c.requires.0 in sym (length-take-le a.n.registers a.register_tags.now f.register_tags)

pub slice_bounds-run_items-end-5 : goal.slice_bounds-run_items-end-5
slice_bounds-run_items-end-5 c = let a = c.args in let seven = c.well_formed.0.1.1.0.1.0.1 in let f = sizes_fit a.rows a.table a.constant_tags.now a.constant_words.now a.register_tags.now a.register_words.now a.program.now a.data_tags.now a.data_words.now a.n seven c.requires.0 in f.register_words

pub slice_bounds-run_items-end-6 : goal.slice_bounds-run_items-end-6
slice_bounds-run_items-end-6 c = let a = c.args in let seven = c.well_formed.0.1.1.0.1.0.1 in let f = sizes_fit a.rows a.table a.constant_tags.now a.constant_words.now a.register_tags.now a.register_words.now a.program.now a.data_tags.now a.data_words.now a.n seven c.requires.0 in sym (length-take-le a.n.registers a.register_words.now f.register_words)

pub slice_bounds-run_items-end-7 : goal.slice_bounds-run_items-end-7
slice_bounds-run_items-end-7 c = let a = c.args in let seven = c.well_formed.0.1.1.0.1.0.1 in let f = sizes_fit a.rows a.table a.constant_tags.now a.constant_words.now a.register_tags.now a.register_words.now a.program.now a.data_tags.now a.data_words.now a.n seven c.requires.0 in sym (length-take-le a.n.program a.program.now f.program)

pub slice_bounds-run_items-end-8 : goal.slice_bounds-run_items-end-8
slice_bounds-run_items-end-8 c = let a = c.args in let seven = c.well_formed.0.1.1.0.1.0.1 in let f = sizes_fit a.rows a.table a.constant_tags.now a.constant_words.now a.register_tags.now a.register_words.now a.program.now a.data_tags.now a.data_words.now a.n seven c.requires.0 in f.data_tags

pub slice_bounds-run_items-end-9 : goal.slice_bounds-run_items-end-9
slice_bounds-run_items-end-9 c = let a = c.args in let seven = c.well_formed.0.1.1.0.1.0.1 in let f = sizes_fit a.rows a.table a.constant_tags.now a.constant_words.now a.register_tags.now a.register_words.now a.program.now a.data_tags.now a.data_words.now a.n seven c.requires.0 in sym (length-take-le a.n.data_words a.data_tags.now f.data_tags)

pub slice_bounds-run_items-end-10 : goal.slice_bounds-run_items-end-10
slice_bounds-run_items-end-10 c = let a = c.args in let seven = c.well_formed.0.1.1.0.1.0.1 in let f = sizes_fit a.rows a.table a.constant_tags.now a.constant_words.now a.register_tags.now a.register_words.now a.program.now a.data_tags.now a.data_words.now a.n seven c.requires.0 in f.data_words

pub slice_bounds-run_items-end-11 : goal.slice_bounds-run_items-end-11
slice_bounds-run_items-end-11 c = let a = c.args in let seven = c.well_formed.0.1.1.0.1.0.1 in let f = sizes_fit a.rows a.table a.constant_tags.now a.constant_words.now a.register_tags.now a.register_words.now a.program.now a.data_tags.now a.data_words.now a.n seven c.requires.0 in sym (length-take-le a.n.data_words a.data_words.now f.data_words)

pub run_items-left-requires : goal.run_items-left-requires
run_items-left-requires c = let a = c.args in let seven = c.well_formed.0.1.1.0.1.0.1 in (c.requires.1, c.requires.2, cut_opened a.rows a.table a.constant_tags.now a.constant_words.now a.register_tags.now a.register_words.now a.program.now a.data_tags.now a.data_words.now a.n seven c.requires.0 _ c.number_tasks-records.ensures)

pub users_of-requires : goal.users_of-requires
users_of-requires c = let a = c.args in let seven = c.well_formed.0.1.1.0.1.0.1 in let x = c.run_items-left.ensures _ (cut_opens a.rows a.table a.constant_tags.now a.constant_words.now a.register_tags.now a.register_words.now a.program.now a.data_tags.now a.data_words.now a.n seven c.requires.0 _ c.number_tasks-records.ensures) in lens_end _ _ c.run_items-left.result _ x.numbers

pub own_of-own-requires : goal.own_of-own-requires
own_of-own-requires c = let a = c.args in let seven = c.well_formed.0.1.1.0.1.0.1 in let x = c.run_items-left.ensures _ (cut_opens a.rows a.table a.constant_tags.now a.constant_words.now a.register_tags.now a.register_words.now a.program.now a.data_tags.now a.data_words.now a.n seven c.requires.0 _ c.number_tasks-records.ensures) in λ t h. small_own _ t (small_counts a.schedule.now _ _ c.requires.1 (ap (λ (y : Ran). y.notes) x.ran)) h

pub total-requires : goal.total-requires
unfolding tally_in
total-requires c = let a = c.args in let seven = c.well_formed.0.1.1.0.1.0.1 in let x = c.run_items-left.ensures _ (cut_opens a.rows a.table a.constant_tags.now a.constant_words.now a.register_tags.now a.register_words.now a.program.now a.data_tags.now a.data_words.now a.n seven c.requires.0 _ c.number_tasks-records.ensures) in rw c.own_of-own.ensures (small_counts a.schedule.now _ _ c.requires.1 (ap (λ (y : Ran). y.notes) x.ran))

pub returns : goal.returns
unfolding held_rows run_answered
returns c = let a = c.args in let seven = c.well_formed.0.1.1.0.1.0.1 in let x = c.run_items-left.ensures _ (cut_opens a.rows a.table a.constant_tags.now a.constant_words.now a.register_tags.now a.register_words.now a.program.now a.data_tags.now a.data_words.now a.n seven c.requires.0 _ c.number_tasks-records.ensures) in let k = c.run_items-left in let s = ran_cut a.rows a.table a.constant_tags.now a.constant_words.now a.register_tags.now a.register_words.now a.program.now a.data_tags.now a.data_words.now a.n seven c.requires.0 a.schedule.now _ _ _ _ _ _ _ _ _ x (with_take _ _ _ a.n.rows _ (rows_few a.rows a.table a.constant_tags.now a.constant_words.now a.register_tags.now a.register_words.now a.program.now a.data_tags.now a.data_words.now a.n seven c.requires.0) c.rows_with.ensures) (ap (λ (u : Processes). record { users = u }) c.users_of.ensures) (tallies _ _ _ c.own_of-own.ensures c.total.ensures) in let d = with_drop _ _ _ a.n.rows _ (rows_few a.rows a.table a.constant_tags.now a.constant_words.now a.register_tags.now a.register_words.now a.program.now a.data_tags.now a.data_words.now a.n seven c.requires.0) c.rows_with.ensures in (run_cuts a.rows a.table a.constant_tags.now a.constant_words.now a.register_tags.now a.register_words.now a.program.now a.data_tags.now a.data_words.now a.n seven c.requires.0 a.schedule.now _ _ _ _ _ _ _ k.auto.register_tags k.auto.register_words k.auto.data_tags k.auto.data_words c.requires.1 c.requires.2 s d, record { count = refl; places = rows_left a.rows a.table a.constant_tags.now a.constant_words.now a.register_tags.now a.register_words.now a.program.now a.data_tags.now a.data_words.now a.n seven c.requires.0 a.schedule.now _ _ _ _ _ _ _ s d; beyond = rows_beyond a.rows a.table a.constant_tags.now a.constant_words.now a.register_tags.now a.register_words.now a.program.now a.data_tags.now a.data_words.now a.n seven c.requires.0 _ d })
