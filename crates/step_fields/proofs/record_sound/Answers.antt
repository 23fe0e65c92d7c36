use Rattle.std.proofs.Common.{sym, ◌∙◌}
use borrow.Author.Tests.{eq-eqb, ne_eqb}
use Rattle.step.specs.Soundness.{record_sound}
use Rattle.step_fields.proofs.record_sound.Goals as goal

pub returns-then-kind-from : goal.returns-then-kind-from
unfolding record_sound
returns-then-kind-from c = simp (eq-eqb _ 255 (c.if-kind-from.true ∙ c.from.ensures))

pub returns-else-kind-from : goal.returns-else-kind-from
unfolding record_sound
returns-else-kind-from c = simp (ne_eqb c.args.kind 255 (λ e. c.if-kind-from.false (e ∙ sym c.from.ensures)), c.psw_sound.ensures)
