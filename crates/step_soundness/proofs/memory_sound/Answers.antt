use mathlib.Core.Path.{◌∙◌}
use Rattle.step_soundness.proofs.Memories.{unequal, too_long, tags_decide}
use Rattle.step_soundness.proofs.memory_sound.Goals as goal

pub returns-then-tags-words : goal.returns-then-tags-words
returns-then-tags-words c = unequal _ _ _ c.if-tags-words.true

pub returns-then-most-words : goal.returns-then-most-words
returns-then-most-words c = too_long _ _ _ c.if-tags-words.false c.if-most-words.true

pub returns : goal.returns
returns c = c.tags_ok.ensures ∙ tags_decide _ _ _ c.if-tags-words.false c.if-most-words.false (λ i. (c.type_inv.words i).fits)
