use Prim.Native.Nat.{ℕ}
use mathlib.Core.Path.{ap, ◌∙◌}
use mathlib.Core.List.{List, ◌++◌}
use lib.ListN.{drop}
use Rattle.image_read.proofs.Fills.{first_words, words_over}
use Rattle.image_read.proofs.fill_first_words.Goals as goal

pub returns : goal.returns
returns c = ap (λ (l : List ℕ). l ++ drop c.args.n c.args.words.now) (c.fill_words.ensures ∙ first_words c.args.at c.args.n c.args.image.now c.args.words.now c.requires.0 c.requires.1) ∙ words_over c.args.at c.args.n c.args.image.now c.args.words.now
