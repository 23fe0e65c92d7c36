use Rattle.std.proofs.Common.{◌++◌, ap, refl, length, drop}
use Rattle.batch.specs.Laws.Copies.{none_copied, all_copied}
use Rattle.batch.proofs.copy.Goals as goal

pub returns-then-out-text : goal.returns-then-out-text
returns-then-out-text c = let both = none_copied _ _ c.if-out-text.true in record { answer = both.0; left = both.1 }

pub returns : goal.returns
returns c =
    let text = c.args.text.now in
    let rest = drop (length text) c.args.out.now in
    let both = all_copied text c.args.out.now _ _ refl (ap (λ l. l ++ rest) c.copy_from_slice.ensures.after) c.if-out-text.false in
    record { answer = both.0; left = both.1 }
