use mathlib.Core.Path.{sym, ap, ◌∙◌}
use mathlib.Core.Bool.{not}
use lib.Seq.{length-take-le}
use Rattle.library.proofs.Laws.Places.{fitting}
use Rattle.library_state.specs.Laws.Cut.{cut_refused}
use Rattle.library_state.proofs.cut_refused.Goals as goal

pub slice_bounds-sound-end : goal.slice_bounds-sound-end
slice_bounds-sound-end c = sym (length-take-le c.args.n.constants c.args.constant_tags.now (fitting _ _ c.requires).constant_tags)

pub slice_bounds-sound-end-2 : goal.slice_bounds-sound-end-2
slice_bounds-sound-end-2 c = sym (length-take-le c.args.n.constants c.args.constant_words.now (fitting _ _ c.requires).constant_words)

pub slice_bounds-sound-end-3 : goal.slice_bounds-sound-end-3
slice_bounds-sound-end-3 c = sym (length-take-le c.args.n.registers c.args.register_tags.now (fitting _ _ c.requires).register_tags)

pub slice_bounds-sound-end-4 : goal.slice_bounds-sound-end-4
slice_bounds-sound-end-4 c = sym (length-take-le c.args.n.registers c.args.register_words.now (fitting _ _ c.requires).register_words)

pub slice_bounds-sound-end-5 : goal.slice_bounds-sound-end-5
slice_bounds-sound-end-5 c = sym (length-take-le c.args.n.program c.args.program.now (fitting _ _ c.requires).program)

pub slice_bounds-sound-end-6 : goal.slice_bounds-sound-end-6
slice_bounds-sound-end-6 c = sym (length-take-le c.args.n.data_words c.args.data_tags.now (fitting _ _ c.requires).data_tags)

pub slice_bounds-sound-end-7 : goal.slice_bounds-sound-end-7
slice_bounds-sound-end-7 c = sym (length-take-le c.args.n.data_words c.args.data_words.now (fitting _ _ c.requires).data_words)

pub returns : goal.returns
returns c = let a = c.args in let seven = c.well_formed.0.1.1.0.1.0.1 in ap not c.sound.ensures ∙ cut_refused a.rows a.table a.constant_tags.now a.constant_words.now a.register_tags.now a.register_words.now a.program.now a.data_tags.now a.data_words.now a.n seven c.requires
