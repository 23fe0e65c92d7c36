use Prim.Native.Nat.{ℕ}
use mathlib.Core.Path.{sym, ap, ◌∙◌}
use mathlib.Core.List.{List}
use lib.ListN.{length}
use lib.Seq.{length-take-le}
use Rattle.image_bytes.specs.Code.Writing.{put_at}
use Rattle.image_write.proofs.Answers.{fitted, small, counted, constants_cut, tags_cut, data_cut, bytes}
use Rattle.image_write.proofs.put_state.Goals as goal

pub slice_bounds-put_image-end : goal.slice_bounds-put_image-end
slice_bounds-put_image-end c = let a = c.args in let seven = c.well_formed.0.1.1.0.1.0.1 in sym (length-take-le a.n.constants a.constant_tags.now (fitted a.rows a.table a.constant_tags.now a.constant_words.now a.register_tags.now a.register_words.now a.program.now a.data_tags.now a.data_words.now a.n seven c.requires.0).constant_tags)

pub slice_bounds-put_image-end-2 : goal.slice_bounds-put_image-end-2
slice_bounds-put_image-end-2 c = let a = c.args in let seven = c.well_formed.0.1.1.0.1.0.1 in sym (length-take-le a.n.constants a.constant_words.now (fitted a.rows a.table a.constant_tags.now a.constant_words.now a.register_tags.now a.register_words.now a.program.now a.data_tags.now a.data_words.now a.n seven c.requires.0).constant_words)

pub slice_bounds-put_image-end-3 : goal.slice_bounds-put_image-end-3
slice_bounds-put_image-end-3 c = let a = c.args in let seven = c.well_formed.0.1.1.0.1.0.1 in sym (length-take-le a.n.registers a.register_tags.now (fitted a.rows a.table a.constant_tags.now a.constant_words.now a.register_tags.now a.register_words.now a.program.now a.data_tags.now a.data_words.now a.n seven c.requires.0).register_tags)

pub slice_bounds-put_image-end-4 : goal.slice_bounds-put_image-end-4
slice_bounds-put_image-end-4 c = let a = c.args in let seven = c.well_formed.0.1.1.0.1.0.1 in sym (length-take-le a.n.registers a.register_words.now (fitted a.rows a.table a.constant_tags.now a.constant_words.now a.register_tags.now a.register_words.now a.program.now a.data_tags.now a.data_words.now a.n seven c.requires.0).register_words)

pub slice_bounds-put_image-end-5 : goal.slice_bounds-put_image-end-5
slice_bounds-put_image-end-5 c = let a = c.args in let seven = c.well_formed.0.1.1.0.1.0.1 in sym (length-take-le a.n.program a.program.now (fitted a.rows a.table a.constant_tags.now a.constant_words.now a.register_tags.now a.register_words.now a.program.now a.data_tags.now a.data_words.now a.n seven c.requires.0).program)

pub slice_bounds-put_image-end-6 : goal.slice_bounds-put_image-end-6
slice_bounds-put_image-end-6 c = let a = c.args in let seven = c.well_formed.0.1.1.0.1.0.1 in sym (length-take-le a.n.data_words a.data_tags.now (fitted a.rows a.table a.constant_tags.now a.constant_words.now a.register_tags.now a.register_words.now a.program.now a.data_tags.now a.data_words.now a.n seven c.requires.0).data_tags)

pub slice_bounds-put_image-end-7 : goal.slice_bounds-put_image-end-7
slice_bounds-put_image-end-7 c = let a = c.args in let seven = c.well_formed.0.1.1.0.1.0.1 in sym (length-take-le a.n.data_words a.data_words.now (fitted a.rows a.table a.constant_tags.now a.constant_words.now a.register_tags.now a.register_words.now a.program.now a.data_tags.now a.data_words.now a.n seven c.requires.0).data_words)

pub put_image-requires : goal.put_image-requires
put_image-requires c = let a = c.args in let seven = c.well_formed.0.1.1.0.1.0.1 in let e = ap length (bytes a.rows a.table a.constant_tags.now a.constant_words.now a.register_tags.now a.register_words.now a.program.now a.data_tags.now a.data_words.now a.n seven c.requires.0) in record { counted = ((small a.rows a.table a.constant_tags.now a.constant_words.now a.register_tags.now a.register_words.now a.program.now a.data_tags.now a.data_words.now a.n seven c.requires.0).rows, (counted a.rows a.table a.constant_tags.now a.constant_words.now a.register_tags.now a.register_words.now a.program.now a.data_tags.now a.data_words.now a.n seven c.requires.0, (constants_cut a.rows a.table a.constant_tags.now a.constant_words.now a.register_tags.now a.register_words.now a.program.now a.data_tags.now a.data_words.now a.n seven c.requires.0, (tags_cut a.rows a.table a.constant_tags.now a.constant_words.now a.register_tags.now a.register_words.now a.program.now a.data_tags.now a.data_words.now a.n seven c.requires.0, data_cut a.rows a.table a.constant_tags.now a.constant_words.now a.register_tags.now a.register_words.now a.program.now a.data_tags.now a.data_words.now a.n seven c.requires.0)))); room = rw e at c.requires.1 }

pub returns : goal.returns
returns c = let a = c.args in let seven = c.well_formed.0.1.1.0.1.0.1 in let e = bytes a.rows a.table a.constant_tags.now a.constant_words.now a.register_tags.now a.register_words.now a.program.now a.data_tags.now a.data_words.now a.n seven c.requires.0 in let i = c.put_image.ensures in record { value = i.value ∙ sym (ap length e); output_after = i.output_after ∙ ap (λ (l : List ℕ). put_at 0 l a.output.now) (sym e) }
