use native.Mathlib.Omega.{arith}
use borrow.Author.Rules.{rules}
use Rattle.run.specs.Run.{no_counts}
use Rattle.hep_c.specs.Laws.Counts.{begins, goes, kept_length, ends}
use Prim.Native.Nat.{◌-◌, ◌≤◌, ℕ, ◌*◌}
use mathlib.Core.Path.{◌≡◌, refl}
use lib.ListN.{length, length-take, length-drop, drop}
use Rattle.hep_c.proofs.put_own.Goals as goal

pub loop-i-init : goal.loop-i-init
loop-i-init c = let h : length c.args.own ≡ 8 = search rules in begins _ _ (omega (arith, h)) (omega (arith, h, c.requires))

pub overflow_add-i : goal.overflow_add-i
overflow_add-i c = omega arith

pub offset_bounds-own-i : goal.offset_bounds-own-i
offset_bounds-own-i c = omega arith

pub bounds-own-i : goal.bounds-own-i
bounds-own-i c = omega (arith, c.loop-i-test.true)

pub overflow_mul-i : goal.overflow_mul-i
overflow_mul-i c = omega (arith, c.loop-i.auto.i-end)

pub offset_bounds-out-i : goal.offset_bounds-out-i
offset_bounds-out-i c = omega (arith, c.loop-i.auto.i-end)

pub slice_bounds-put_kinds-count : goal.slice_bounds-put_kinds-count
slice_bounds-put_kinds-count c = omega (arith, c.loop-i.auto.i-end, kept_length _ _ _ _ c.loop-i.invariant, c.requires)

pub slice_bounds-put_kinds-start : goal.slice_bounds-put_kinds-start
slice_bounds-put_kinds-start c = let h : c.loop-i.i * 5 ≤ length c.loop-i.out = omega (arith, c.loop-i.auto.i-end, kept_length _ _ _ _ c.loop-i.invariant, c.requires) in h

pub put_kinds-requires : goal.put_kinds-requires
put_kinds-requires c = let o = c.loop-i.out in let a : ℕ = c.loop-i.i * 5 in omega (arith, c.loop-i-test.true, kept_length _ _ _ _ c.loop-i.invariant, c.requires, length-take (length o - a) (drop a o), length-drop a o)

pub loop-i-preserved : goal.loop-i-preserved
loop-i-preserved c = let h : length c.args.own ≡ 8 = search rules in goes _ _ _ _ c.loop-i.invariant _ no_counts _ (omega (arith, h, c.loop-i-test.true)) refl c.put_kinds.ensures

pub shape_of-out : goal.shape_of-out
shape_of-out c = kept_length _ _ _ _ c.loop-i.invariant

pub returns : goal.returns
returns c = let h : length c.args.own ≡ 8 = search rules in ends _ _ _ _ c.loop-i.invariant (omega (arith, h, c.loop-i-test.false))
