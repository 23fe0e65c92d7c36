use borrow.Author.Tests.{ne_eqb}
use mathlib.Core.Logic.{inl, inr, ⊎_elim}
use Rattle.operation.specs.Environment.{kind_of}
use Rattle.step.specs.Soundness.{member, kinds, kind_sound}
use Rattle.step_fields.proofs.kind_sound.Goals as goal

pub returns-in-0 : goal.returns-in-0
unfolding kind_sound kinds kind_of member
returns-in-0 c =
    ⊎_elim (λ e. rw e) (⊎_elim (λ e. rw e) (⊎_elim (λ e. rw e)
    (⊎_elim (λ e. rw e) (⊎_elim (λ e. rw e) (⊎_elim (λ e. rw e) (⊎_elim (λ e. rw e) (λ e. rw e))))))) c.in-0.is

pub returns-in_default : goal.returns-in_default
unfolding kind_sound kinds kind_of member
returns-in_default c =
    simp (
      ne_eqb _ 0 (λ e. c.in_default.in_default-own.rest.1 (inl e)),
      ne_eqb _ 18 (λ e. c.in_default.in_default-own.rest.1 (inr (inl e))),
      ne_eqb _ 20 (λ e. c.in_default.in_default-own.rest.1 (inr (inr (inl e)))),
      ne_eqb _ 22 (λ e. c.in_default.in_default-own.rest.1 (inr (inr (inr (inl e))))),
      ne_eqb _ 26 (λ e. c.in_default.in_default-own.rest.1 (inr (inr (inr (inr (inl e)))))),
      ne_eqb _ 28 (λ e. c.in_default.in_default-own.rest.1 (inr (inr (inr (inr (inr (inl e))))))),
      ne_eqb _ 30 (λ e. c.in_default.in_default-own.rest.1 (inr (inr (inr (inr (inr (inr (inl e)))))))),
      ne_eqb _ 255 (λ e. c.in_default.in_default-own.rest.1 (inr (inr (inr (inr (inr (inr (inr e)))))))),
    )
