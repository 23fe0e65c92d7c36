use native.Mathlib.Omega.{arith}
use lib.ListN.{length, take, length-set}
use lib.Seq.{take_all}
use Rattle.run_schedule.specs.Laws.Carried.{copies}
use borrow.Author.Rules.{rules}
use mathlib.Core.Path.{sym, ap, ◌∙◌, ◌≡◌}
use Rattle.run_schedule.proofs.without_fresh.Goals as goal

pub loop-k-preserved : goal.loop-k-preserved
loop-k-preserved c =
    let a = c.args in
    let l = c.loop-k in
    let f : length a.psws ≡ 65 = search rules in
    (length-set l.psw l.k _ ∙ l.invariant.0, copies 0 a.psws l.psw l.k (omega arith) (omega arith) l.invariant.1)

pub returns : goal.returns
returns c = let a = c.args in let l = c.loop-k in let f : length a.psws ≡ 65 = search rules in let e : l.k ≡ 64 = omega arith in sym (take_all l.k l.psw (omega arith)) ∙ l.invariant.1 ∙ ap (λ k. take k a.psws) e
