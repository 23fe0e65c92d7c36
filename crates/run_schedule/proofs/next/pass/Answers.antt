use native.Mathlib.Omega.{arith}
use mathlib.Core.Path.{sym}
use Rattle.run_rings.specs.Laws.Rings.{moves_len, passed_in}
use Rattle.run_schedule.proofs.next.pass.Goals as goal

pub join-requires : goal.join-requires
join-requires c = (omega arith, omega (arith, c.requires, moves_len _ _ _ _ _ _ _ _ _ (λ e. c.requires.2 (sym e)) c.leave.ensures))

pub returns : goal.returns
returns c = passed_in _ _ _ _ _ _ _ _ _ _ _ _ (omega arith) (omega arith) c.front-pt.ensures c.leave.ensures c.join.ensures
