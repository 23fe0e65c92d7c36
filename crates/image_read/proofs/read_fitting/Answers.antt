use native.Mathlib.Omega.{arith}
use Rattle.image_bytes.specs.Code.Reading.{number_at}
use Rattle.image_check.specs.Code.Places.{processes_place}
use Rattle.image_check.specs.Laws.Found.{found}
use Rattle.image_read.specs.Laws.Few.{found_few}
use Rattle.image_read.specs.Laws.Room.{room_of_lem}
use Rattle.image_read.specs.Laws.Read.{same_places, read_image}
use Rattle.image_bytes.specs.Laws.Fields.{all_bytes}
use Rattle.image_read.proofs.Whole.{table_read}
use Rattle.image_read.proofs.read_fitting.Goals as goal

pub rows_at-at-requires : goal.rows_at-at-requires
rows_at-at-requires c = (found_few c.args.n c.args.image.now (found c.args.image.now c.args.n c.requires.0)).0

pub overflow_mul-place : goal.overflow_mul-place
overflow_mul-place c = omega (arith, (found_few c.args.n c.args.image.now (found c.args.image.now c.args.n c.requires.0)).0)

pub overflow_add-place : goal.overflow_add-place
overflow_add-place c = omega (arith, (found_few c.args.n c.args.image.now (found c.args.image.now c.args.n c.requires.0)).0)

pub table_at-table-requires : goal.table_at-table-requires
unfolding number_at processes_place
table_at-table-requires c = let f = found_few c.args.n c.args.image.now (found c.args.image.now c.args.n c.requires.0) in (omega (arith, f.0), omega (arith, f.1, c.number_at-m.ensures.value))

pub fill-requires : goal.fill-requires
unfolding number_at
fill-requires c = let a = c.args in room_of_lem a.n _ a.image.now _ _ _ _ _ _ _ _ c.number_at-m.ensures.value (found a.image.now a.n c.requires.0).ends c.requires.1

pub returns : goal.returns
unfolding number_at
returns c = λ table. let a = c.args in let seven = c.well_formed.0.1.1.0.1.0.1 in let f = found a.image.now a.n c.requires.0 in let t = table_read a.n _ a.image.now (all_bytes _ (λ i. omega (arith, c.shared_slice_known-1.given i))) f c.number_at-m.ensures.value c.table_at-table.ensures in let w = c.rows_at-at.ensures in (read_image a.rows table a.constant_tags.now a.constant_words.now a.register_tags.now a.register_words.now a.program.now a.data_tags.now a.data_words.now a.image.now a.n seven f c.requires.1 w t c.fill.ensures, same_places a.rows table a.constant_tags.now a.constant_words.now a.register_tags.now a.register_words.now a.program.now a.data_tags.now a.data_words.now a.image.now a.n seven f c.requires.1 w)
