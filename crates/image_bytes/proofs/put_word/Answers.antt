use Rattle.image_bytes.proofs.Putting.{word_laid}
use Rattle.image_bytes.proofs.put_word.Goals as goal

pub returns : goal.returns
returns c = word_laid c.args.at c.args.v c.args.out.now c.to_be_bytes.ensures c.copy_from_slice.ensures.after
