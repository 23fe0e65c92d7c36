use Prim.Native.Nat.{ℕ}
use mathlib.Core.Path.{◌≡◌, sym, ap}
use native.Mathlib.Omega.{arith}
use lib.ListN.{length, length-replicate}
use lib.Seq.{length-take-le}
use Rattle.report_text.specs.Texts.{report_room}
use Rattle.batch.specs.Laws.Copies.{at_most, put_straight, copied_held}
use borrow.Author.Rules.{rules}
use Rattle.batch.proofs.batch.Goals as goal

pub returns-then-out-ge-REPORT_ROOM : goal.returns-then-out-ge-REPORT_ROOM
returns-then-out-ge-REPORT_ROOM c = let both = put_straight _ _ _ _ c.output.ensures c.if-out-ge-REPORT_ROOM.true in record { answer = both.0; left = both.1.0; enough = both.1.1 }

pub slice_bounds-text-end : goal.slice_bounds-text-end
slice_bounds-text-end c = omega (arith, at_most _ _ _ _ c.output-n.ensures, ap length c.output_buffer-text.ensures, length-replicate {A = ℕ} report_room 0)

pub slice_bounds-copy-end : goal.slice_bounds-copy-end
slice_bounds-copy-end c = let same : length c.output-n.new.out ≡ report_room = search rules in sym (length-take-le c.output-n.result c.output-n.new.out (omega (arith, at_most _ _ _ _ c.output-n.ensures, ap length c.output_buffer-text.ensures, length-replicate {A = ℕ} report_room 0)))

pub returns : goal.returns
returns c = let both = copied_held _ _ _ _ c.output-n.ensures (omega (arith, ap length c.output_buffer-text.ensures, length-replicate {A = ℕ} report_room 0)) _ _ _ (c.copy.ensures.answer, c.copy.ensures.left) in record { answer = both.0; left = both.1.0; enough = both.1.1 }
