use mathlib.Core.Logic.{inl, inr}
use Rattle.image_bytes.specs.Code.Scanning.{tag_refusal}
use Rattle.image_bytes.proofs.tag_refusal.Goals as goal

pub returns-in-Constant : goal.returns-in-Constant
unfolding tag_refusal
returns-in-Constant c = simp c.in-Constant.is

pub returns-in-Register : goal.returns-in-Register
unfolding tag_refusal
returns-in-Register c = elim c.in-Register.is [ inl e ↦ simp e | inr e ↦ simp e ]
