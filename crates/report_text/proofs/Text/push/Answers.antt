use Rattle.std.proofs.Common.{refl}
use Rattle.report_text.specs.Laws.Texts.{pushed_within, full}
use Rattle.report_text.proofs.Text.push.Goals as goal

pub returns-then-self : goal.returns-then-self
returns-then-self c = record { same_buffer = refl; bytes = pushed_within _ _ _ c.if-self.true }

pub returns-else-self : goal.returns-else-self
returns-else-self c = record { same_buffer = refl; bytes = full _ _ c.if-self.false _ }
