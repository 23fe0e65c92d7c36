use mathlib.Core.Path.{◌∙◌}
use Rattle.image_bytes.proofs.Bytewise.{word_is}
use Rattle.image_bytes.proofs.word_at.Goals as goal

pub returns : goal.returns
returns c = c.from_be_bytes.ensures ∙ word_is c.args.at c.args.s.now c.requires
