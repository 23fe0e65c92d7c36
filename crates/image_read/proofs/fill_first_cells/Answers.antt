use mathlib.Core.Path.{ap, ◌∙◌}
use mathlib.Core.List.{◌++◌}
use lib.ListN.{drop}
use Rattle.window.specs.Memories.{Memory, tag_of, word_of}
use Rattle.image.specs.Image.{memory_of}
use Rattle.image_read.proofs.Fills.{first_cells, cells_over}
use Rattle.image_read.proofs.fill_first_cells.Goals as goal

pub returns : goal.returns
unfolding memory_of
returns c =
    let m = c.fill_cells.ensures ∙ first_cells c.args.at c.args.n c.args.image.now c.args.tags.now c.args.words.now c.requires.0.0 c.requires.0.1 c.requires.1 in record { tags_after = ap (λ (x : Memory). x.tags ++ drop c.args.n c.args.tags.now) m ∙ cells_over c.args.at c.args.n c.args.image.now c.args.tags.now tag_of; words_after = ap (λ (x : Memory). x.words ++ drop c.args.n c.args.words.now) m ∙ cells_over c.args.at c.args.n c.args.image.now c.args.words.now word_of }
