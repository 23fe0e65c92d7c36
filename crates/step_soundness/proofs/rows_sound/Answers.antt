use Rattle.std.proofs.Common.{sym, ◌∙◌, drop_of_length-le, arith}
use Rattle.step_soundness.proofs.Loops.{next_of_lem, rows_tested, goes, fails, ends}
use Rattle.step_soundness.proofs.rows_sound.Goals as goal

pub returns-then-not-row_sound : goal.returns-then-not-row_sound
returns-then-not-row_sound c =
    let l = c.loop-row in
    fails rows_tested (next_of_lem c.args.rows.now l.row-index _ (omega arith)) (sym c.row_sound.ensures ∙ c.if-not-row_sound.true) l.invariant

pub loop-row-preserved : goal.loop-row-preserved
loop-row-preserved c =
    let l = c.loop-row in
    goes rows_tested (next_of_lem c.args.rows.now l.row-index _ (omega arith)) (sym c.row_sound.ensures ∙ c.if-not-row_sound.false) l.invariant

pub returns : goal.returns
returns c = let l = c.loop-row in ends rows_tested (drop_of_length-le c.args.rows.now {i = l.row-index} (omega arith)) l.invariant
