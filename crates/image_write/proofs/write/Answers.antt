use mathlib.Core.Path.{sym, ◌∙◌}
use Rattle.image_write.proofs.Answers.{refuses_8}
use Rattle.image_write.proofs.write.Goals as goal

pub returns-then-refused : goal.returns-then-refused
returns-then-refused c = refuses_8 _ _ _ (sym c.refused.ensures ∙ c.if-refused.true)

pub write_sound-requires : goal.write_sound-requires
write_sound-requires c = sym c.refused.ensures ∙ c.if-refused.false
