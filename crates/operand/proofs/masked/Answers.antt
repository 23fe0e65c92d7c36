use Rattle.operand.specs.Laws.Masked.{constant_masked, register_masked}
use mathlib.Core.Path.{sym, ◌∙◌}
use Rattle.operand.specs.Access.{masked_of}
use native.Mathlib.Nat.{zero-div}
use Rattle.operand.proofs.masked.Goals as goal

pub returns-then-utm-eq0 : goal.returns-then-utm-eq0
unfolding masked_of
returns-then-utm-eq0 c = simp (← c.utm-utm.ensures, c.if-utm-eq0.true, zero-div)

pub returns-then-constant : goal.returns-then-constant
returns-then-constant c = constant_masked _ _ _ _ _ _ c.utm-utm.ensures _ _ (sym c.constant.ensures ∙ c.if-constant.true) c.at_or.ensures c.masks.ensures

pub returns : goal.returns
returns c = register_masked _ _ _ _ _ _ c.utm-utm.ensures _ (sym c.constant.ensures ∙ c.if-constant.false) c.masks-2.ensures
