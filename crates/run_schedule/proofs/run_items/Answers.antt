use native.Mathlib.Omega.{arith}
use Prim.Native.Nat.{◌<◌}
use borrow.Author.Rules.{rules}
use Rattle.run_next.specs.Laws.Loop.{begins, less_next, turn_idle, turn_head, turn_ready, turn_over, turn_follows, turn_less}
use Rattle.run_schedule.specs.Laws.Items.{item_in_lem}
use Rattle.run_next.specs.Code.Settled.{place_of}
use Rattle.step.specs.declared.Attempt.TheVariants.{Step}
use Rattle.step.specs.declared.Ending.TheVariants.{Idle}
use mathlib.Core.Bool.{false}
use Rattle.run_schedule.specs.Code.Carried.{lines_of}
use Rattle.run_schedule.specs.Laws.Carried.{numbers_begin, even, cell_room, state_same, run_ends, place_le}
use Rattle.run_next.specs.Code.Numbers.{cells}
use Rattle.window.specs.Memories.{memory}
use mathlib.Core.List.{List}
use Prim.Native.Nat.{ℕ, ◌+◌}
use lib.ListN.{length, length-set, get_or, set}
use Rattle.run_next.specs.Laws.Settled.{kinds_length, stored_length}
use mathlib.Core.Path.{refl, ap, ◌∙◌, ◌≡◌}
use Rattle.run_schedule.proofs.run_items.Goals as goal

pub returns-then-register_tags-register_words : goal.returns-then-register_tags-register_words
returns-then-register_tags-register_words c = let a = c.args in let b = c.numbered-carried in λ rows o. absurd (c.if-register_tags-register_words.true (even rows a.users a.records _ b.result o b.ensures).0)

pub returns-then-data_tags-data_words : goal.returns-then-data_tags-data_words
returns-then-data_tags-data_words c = let a = c.args in let b = c.numbered-carried in λ rows o. absurd (c.if-data_tags-data_words.true (even rows a.users a.records _ b.result o b.ensures).1)

pub loop-i-init : goal.loop-i-init
loop-i-init c = let b = c.numbered-carried in let f₁ : length b.result.kinds ≡ 8 = search rules in let f₂ : length b.result.stored ≡ 8 = search rules in let f₃ : length b.result.tally ≡ 80 = search rules in (record { running = λ rows n. begins _ rows _ (lines_of b.result) _ _ n b.ensures.stands b.ensures.tally; kinds = f₁; stored = f₂; cells = f₃ }, refl, refl, refl, refl)

pub bounds : goal.bounds
bounds c = let a = c.args in let l = c.loop-i in omega (arith, (item_in_lem a.schedule.now l.i c.requires.1 c.loop-i-test.true).1)

pub bounds-carried-t : goal.bounds-carried-t
bounds-carried-t c = let a = c.args in let l = c.loop-i in omega (arith, (item_in_lem a.schedule.now l.i c.requires.1 c.loop-i-test.true).1)

pub count_attempt-requires : goal.count_attempt-requires
unfolding place_of
count_attempt-requires c = let a = c.args in let l = c.loop-i in let o = c.requires.2 in let b = c.numbered-carried in let w : length b.result.psws ≡ 65 = search rules in let g = l.invariant.0.running o.rows (numbers_begin o.rows a.users a.records _ b.result o.opens b.ensures w) in let t = item_in_lem a.schedule.now l.i c.requires.1 c.loop-i-test.true in let h : l.i < length a.schedule.now = c.loop-i-test.true in let k = l.invariant.0.cells in (omega (arith, t.1), omega arith, cell_room a.schedule.now l.i _ o.rows _ (lines_of l.carried) _ l.carried.tally _ 24 Step false Idle refl c.requires.0 g (omega (arith, t.1)))

pub loop-i-smaller-in_default : goal.loop-i-smaller-in_default
loop-i-smaller-in_default c = less_next _ _ _ _ c.loop-i-test.true

pub loop-i-preserved-in_default : goal.loop-i-preserved-in_default
loop-i-preserved-in_default c = let a = c.args in let l = c.loop-i in let t = item_in_lem a.schedule.now l.i c.requires.1 c.loop-i-test.true in let k = l.invariant.0.cells in let ks = l.invariant.0.kinds in let ss = l.invariant.0.stored in (record { running = λ rows n. turn_idle a.schedule.now l.i _ rows _ (lines_of l.carried) _ l.carried.tally (l.invariant.0.running rows n) c.loop-i-test.true (omega (arith, t.1)) k _ c.in_default.is c.count_attempt.ensures; kinds = ks; stored = ss; cells = ap length c.count_attempt.ensures ∙ length-set l.carried.tally _ _ ∙ k }, l.invariant.1, l.invariant.2, l.invariant.3, l.invariant.4)

pub attempt-c-requires : goal.attempt-c-requires
attempt-c-requires c = let a = c.args in let l = c.loop-i in let o = c.requires.2 in let b = c.numbered-carried in let w : length b.result.psws ≡ 65 = search rules in let g = l.invariant.0.running o.rows (numbers_begin o.rows a.users a.records _ b.result o.opens b.ensures w) in let t = item_in_lem a.schedule.now l.i c.requires.1 c.loop-i-test.true in let h : l.i < length a.schedule.now = c.loop-i-test.true in let k = l.invariant.0.cells in let hd = turn_head a.schedule.now l.i _ o.rows _ (lines_of l.carried) _ l.carried.tally g h (omega (arith, t.1)) k c.in-Some.next c.in-Some.is in (omega (arith, t.1), omega (arith, hd))

pub bounds-carried-pt : goal.bounds-carried-pt
bounds-carried-pt c = let a = c.args in let l = c.loop-i in let o = c.requires.2 in let b = c.numbered-carried in let w : length b.result.psws ≡ 65 = search rules in let g = l.invariant.0.running o.rows (numbers_begin o.rows a.users a.records _ b.result o.opens b.ensures w) in let t = item_in_lem a.schedule.now l.i c.requires.1 c.loop-i-test.true in let h : l.i < length a.schedule.now = c.loop-i-test.true in let k = l.invariant.0.cells in let hd = turn_head a.schedule.now l.i _ o.rows _ (lines_of l.carried) _ l.carried.tally g h (omega (arith, t.1)) k c.in-Some.next c.in-Some.is in omega (arith, hd)

pub settle-place-requires : goal.settle-place-requires
settle-place-requires c = let a = c.args in let l = c.loop-i in let o = c.requires.2 in let b = c.numbered-carried in let w : length b.result.psws ≡ 65 = search rules in let g = l.invariant.0.running o.rows (numbers_begin o.rows a.users a.records _ b.result o.opens b.ensures w) in let t = item_in_lem a.schedule.now l.i c.requires.1 c.loop-i-test.true in let h : l.i < length a.schedule.now = c.loop-i-test.true in let k = l.invariant.0.cells in turn_ready a.schedule.now l.i _ o.rows _ (lines_of l.carried) _ l.carried.tally g h (omega (arith, t.1)) k c.in-Some.next c.in-Some.is _ _ (cells (memory a.constant_tags.now a.constant_words.now) _ a.program.now _) c.attempt-c.ensures

pub count_attempt-requires-in-loop-i : goal.count_attempt-requires-in-loop-i
count_attempt-requires-in-loop-i c = let a = c.args in let l = c.loop-i in let o = c.requires.2 in let b = c.numbered-carried in let w : length b.result.psws ≡ 65 = search rules in let g = l.invariant.0.running o.rows (numbers_begin o.rows a.users a.records _ b.result o.opens b.ensures w) in let t = item_in_lem a.schedule.now l.i c.requires.1 c.loop-i-test.true in let h : l.i < length a.schedule.now = c.loop-i-test.true in let k = l.invariant.0.cells in let e = c.settle-place.ensures in let p = place_le _ _ _ _ e.0.place in (omega (arith, t.1), omega (arith, p), rw e.1 (cell_room a.schedule.now l.i _ o.rows _ (lines_of l.carried) _ l.carried.tally _ _ _ _ _ e.0.place c.requires.0 g (omega (arith, t.1))))

pub loop-i-smaller-then-place-lt-THEN : goal.loop-i-smaller-then-place-lt-THEN
loop-i-smaller-then-place-lt-THEN c = less_next _ _ _ _ c.loop-i-test.true

pub loop-i-preserved-then-place-lt-THEN : goal.loop-i-preserved-then-place-lt-THEN
loop-i-preserved-then-place-lt-THEN c = let a = c.args in let l = c.loop-i in let t = item_in_lem a.schedule.now l.i c.requires.1 c.loop-i-test.true in let k = l.invariant.0.cells in let ks = l.invariant.0.kinds in let ss = l.invariant.0.stored in let e = c.settle-place.ensures in (record { running = λ rows n. turn_over a.schedule.now l.i _ rows _ (lines_of l.carried) _ l.carried.tally (l.invariant.0.running rows n) c.loop-i-test.true (omega (arith, t.1)) k c.in-Some.next c.in-Some.is _ _ _ c.attempt-c.ensures _ (lines_of c.settle-place.new.self) (omega (arith, ks)) (omega (arith, ss)) e.0 refl refl _ (c.count_attempt-in-loop-i.ensures ∙ ap (λ (x : List ℕ). set x (c.settle-place.result + get_or a.schedule.now l.i 0) (get_or x (c.settle-place.result + get_or a.schedule.now l.i 0) 0 + 1)) e.1) c.if-place-lt-THEN.true; kinds = ap length e.0.kinds ∙ kinds_length _ _ _ ∙ ks; stored = ap length e.0.stored ∙ stored_length _ _ _ ∙ ss; cells = ap length c.count_attempt-in-loop-i.ensures ∙ length-set c.settle-place.new.self.tally _ _ ∙ ap length e.1 ∙ k }, c.attempt-c.auto.register_tags ∙ l.invariant.1, c.attempt-c.auto.register_words ∙ l.invariant.2, c.attempt-c.auto.data_tags ∙ l.invariant.3, c.attempt-c.auto.data_words ∙ l.invariant.4)

pub loop-i-smaller : goal.loop-i-smaller
loop-i-smaller c = let a = c.args in let l = c.loop-i in let o = c.requires.2 in let b = c.numbered-carried in let w : length b.result.psws ≡ 65 = search rules in let g = l.invariant.0.running o.rows (numbers_begin o.rows a.users a.records _ b.result o.opens b.ensures w) in let t = item_in_lem a.schedule.now l.i c.requires.1 c.loop-i-test.true in let h : l.i < length a.schedule.now = c.loop-i-test.true in let k = l.invariant.0.cells in let ks = l.invariant.0.kinds in let ss = l.invariant.0.stored in let e = c.settle-place.ensures in turn_less a.schedule.now l.i _ o.rows _ (lines_of l.carried) _ l.carried.tally g c.loop-i-test.true (omega (arith, t.1)) k c.in-Some.next c.in-Some.is _ _ _ c.attempt-c.ensures _ (lines_of c.settle-place.new.self) (omega (arith, ks)) (omega (arith, ss)) e.0 refl refl c.if-place-lt-THEN.false

pub loop-i-preserved : goal.loop-i-preserved
loop-i-preserved c = let a = c.args in let l = c.loop-i in let t = item_in_lem a.schedule.now l.i c.requires.1 c.loop-i-test.true in let k = l.invariant.0.cells in let ks = l.invariant.0.kinds in let ss = l.invariant.0.stored in let e = c.settle-place.ensures in (record { running = λ rows n. turn_follows a.schedule.now l.i _ rows _ (lines_of l.carried) _ l.carried.tally (l.invariant.0.running rows n) c.loop-i-test.true (omega (arith, t.1)) k c.in-Some.next c.in-Some.is _ _ _ c.attempt-c.ensures _ (lines_of c.settle-place.new.self) (omega (arith, ks)) (omega (arith, ss)) e.0 refl refl _ (c.count_attempt-in-loop-i.ensures ∙ ap (λ (x : List ℕ). set x (c.settle-place.result + get_or a.schedule.now l.i 0) (get_or x (c.settle-place.result + get_or a.schedule.now l.i 0) 0 + 1)) e.1) c.if-place-lt-THEN.false; kinds = ap length e.0.kinds ∙ kinds_length _ _ _ ∙ ks; stored = ap length e.0.stored ∙ stored_length _ _ _ ∙ ss; cells = ap length c.count_attempt-in-loop-i.ensures ∙ length-set c.settle-place.new.self.tally _ _ ∙ ap length e.1 ∙ k }, c.attempt-c.auto.register_tags ∙ l.invariant.1, c.attempt-c.auto.register_words ∙ l.invariant.2, c.attempt-c.auto.data_tags ∙ l.invariant.3, c.attempt-c.auto.data_words ∙ l.invariant.4)

pub returns : goal.returns
returns c = let a = c.args in let l = c.loop-i in let b = c.numbered-carried in let w : length b.result.psws ≡ 65 = search rules in λ rows o. run_ends a.schedule.now l.i _ _ rows _ l.carried _ (omega (arith, c.loop-i-test.false)) (state_same rows a.users a.records _ b.result o b.ensures) (l.invariant.0.running rows (numbers_begin rows a.users a.records _ b.result o b.ensures w))
