use mathlib.Core.Path.{◌≡◌}
use lib.ListN.{length}
use borrow.Author.Tests.{le-leb, lt-leb, eq-eqb, ne_eqb}
use borrow.Author.Rules.{rules}
use Rattle.step.specs.Soundness.{queue_shaped, may_hold}
use Rattle.step_soundness.specs.Code.Held.{queue_sound}
use Rattle.step_soundness.proofs.queue_sound.Goals as goal

pub returns-then-q-gt-PLACES : goal.returns-then-q-gt-PLACES
unfolding queue_sound queue_shaped
returns-then-q-gt-PLACES c = let a : length c.args.q.pts ≡ 64 = search rules in simp (eq-eqb _ _ a, lt-leb _ _ c.if-q-gt-PLACES.true)

pub returns-then-q-eq0 : goal.returns-then-q-eq0
unfolding queue_sound queue_shaped
returns-then-q-eq0 c = let a : length c.args.q.pts ≡ 64 = search rules in simp (eq-eqb _ _ a, le-leb _ _ c.if-q-gt-PLACES.false, eq-eqb _ _ c.if-q-eq0.true)

pub returns : goal.returns
unfolding queue_sound queue_shaped may_hold
returns c = let a : length c.args.q.pts ≡ 64 = search rules in simp (← c.has_row.ensures, eq-eqb _ _ a, le-leb _ _ c.if-q-gt-PLACES.false, ne_eqb _ _ c.if-q-eq0.false)
