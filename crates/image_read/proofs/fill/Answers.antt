use Rattle.image_read.proofs.Whole.{all_filled}
use Rattle.image_read.proofs.fill.Goals as goal

pub returns : goal.returns
returns c = λ rows t. let a = c.args in let x = c.fill_first_cells.ensures in let y = c.fill_first_cells-2.ensures in let z = c.fill_first_cells-3.ensures in all_filled a.n a.m a.image.now rows t a.constant_tags.now a.constant_words.now a.register_tags.now a.register_words.now a.program.now a.data_tags.now a.data_words.now c.requires.processes (x.tags_after, x.words_after) (y.tags_after, y.words_after) c.fill_first_words.ensures (z.tags_after, z.words_after)
