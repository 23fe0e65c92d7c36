use native.Mathlib.Omega.{arith}
use lib.ListN.{length, take, length-set}
use lib.Seq.{take_all}
use Rattle.run_schedule.specs.Laws.Carried.{copies}
use borrow.Author.Rules.{rules}
use mathlib.Core.Path.{sym, ap, ◌∙◌, ◌≡◌}
use Rattle.run_schedule.proofs.with_fresh.Goals as goal

pub loop-k-preserved : goal.loop-k-preserved
loop-k-preserved c =
    let a = c.args in
    let l = c.loop-k in
    let f : length a.psw ≡ 64 = search rules in
    (length-set l.psws l.k _ ∙ l.invariant.0, copies 0 a.psw l.psws l.k (omega arith) (omega arith) l.invariant.1)

pub returns : goal.returns
returns c = let a = c.args in let l = c.loop-k in let f : length a.psw ≡ 64 = search rules in let e : l.k ≡ 64 = omega arith in ap (λ k. take k l.psws) (sym e) ∙ l.invariant.1 ∙ take_all l.k a.psw (omega arith)
