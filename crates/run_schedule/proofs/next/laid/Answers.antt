use native.Mathlib.Omega.{arith}
use mathlib.Core.Path.{refl, ◌∙◌, subst}
use Rattle.std.specs.Prelude.{Option}
use lib.ListN.{set, length-set}
use Rattle.run_next.specs.declared.Next.{Next}
use Rattle.run_next.specs.Code.Next.{Puts}
use Rattle.run_next.specs.Laws.Next.{set_puts}
use Rattle.run_next.specs.Laws.Stands.{laid_idle, laid_active, laid_all}
use Rattle.run_schedule.proofs.next.laid.Goals as goal

pub loop-t-preserved-then-kinds-t : goal.loop-t-preserved-then-kinds-t
loop-t-preserved-then-kinds-t c = let l = c.loop-t in (laid_idle l.t _ l.next _ c.if-kinds-t.true l.invariant.0, l.invariant.1)

pub loop-t-preserved : goal.loop-t-preserved
loop-t-preserved c =
    let l = c.loop-t in
    let p = subst (λ (n : Option Next). Puts l.t n l.next (set l.next l.t c.standing.result)) c.standing.ensures (set_puts l.next l.t c.standing.result (omega (arith, l.invariant.1))) in
    (laid_active l.t _ l.next _ _ c.if-kinds-t.false p l.invariant.0, length-set l.next l.t _ ∙ l.invariant.1)

pub returns : goal.returns
returns c = let l = c.loop-t in (refl, laid_all l.t _ l.next _ (omega arith) l.invariant.0)
