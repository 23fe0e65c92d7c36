use mathlib.Core.Path.{refl, ap, ◌∙◌}
use native.Mathlib.Nat.{add-sub_cancel_left}
use Prim.Native.Nat.{◌-◌}
use lib.ListN.{length, drop}
use borrow.Author.Tests.{le-leb, lt-leb}
use Rattle.image.specs.Codec.{number, field}
use Rattle.image_bytes.specs.Code.Reading.{number_at}
use Rattle.image_bytes.proofs.Bytewise.{below, part_is, part_most}
use native.Mathlib.Omega.{arith}
use Rattle.image_bytes.proofs.number_at.Goals as goal

pub returns-then-w-gt-WORD_BYTES-clause-value : goal.returns-then-w-gt-WORD_BYTES-clause-value
unfolding number_at
returns-then-w-gt-WORD_BYTES-clause-value c = rw (lt-leb c.args.w 8 c.if-w-gt-WORD_BYTES.true)

pub returns-then-w-gt-WORD_BYTES-clause-below : goal.returns-then-w-gt-WORD_BYTES-clause-below
returns-then-w-gt-WORD_BYTES-clause-below c = below _ 0 _ (omega arith) (omega arith)

pub returns-then-s-from-clause-value : goal.returns-then-s-from-clause-value
unfolding number_at field
returns-then-s-from-clause-value c =
    let a = c.args in
    rw (le-leb a.w 8 c.if-w-gt-WORD_BYTES.false)
    (c.number.ensures.value ∙ ap (number 0) (part_is a.w a.at a.s.now c.min-from.ensures (omega (arith, c.if-s-from.true)) refl))

pub returns-then-s-from-clause-below : goal.returns-then-s-from-clause-below
returns-then-s-from-clause-below c =
    let a = c.args in
    let e = part_is a.w a.at a.s.now {there = length a.s.now - c.min-from.result} c.min-from.ensures (omega (arith, c.if-s-from.true)) refl in
    below _ _ _ c.number.ensures.below (rw e (part_most a.w (drop a.at a.s.now)))

pub returns-clause-value : goal.returns-clause-value
unfolding number_at field
returns-clause-value c =
    let a = c.args in
    rw (le-leb a.w 8 c.if-w-gt-WORD_BYTES.false)
    (c.number-2.ensures.value ∙ ap (number 0) (part_is a.w a.at a.s.now c.min-from.ensures (omega (arith, c.if-s-from.false)) (add-sub_cancel_left c.min-from.result a.w)))

pub returns-clause-below : goal.returns-clause-below
returns-clause-below c =
    let a = c.args in
    let e = part_is a.w a.at a.s.now c.min-from.ensures (omega (arith, c.if-s-from.false)) (add-sub_cancel_left c.min-from.result a.w) in
    below _ _ _ c.number-2.ensures.below (rw e (part_most a.w (drop a.at a.s.now)))
