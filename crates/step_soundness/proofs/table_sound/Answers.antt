use Prim.Native.Nat.{ℕ}
use mathlib.Core.Bool.{◌&&◌}
use mathlib.Core.Path.{◌≡◌, sym, ap, ◌∙◌}
use mathlib.Core.List.{List}
use lib.ListN.{length}
use Rattle.window.specs.declared.Row.{Row}
use Rattle.step.specs.declared.Processes.{Processes}
use borrow.Author.Tests.{eq-eqb, le-leb, lt-leb}
use borrow.Author.Rules.{rules}
use Rattle.step.specs.Queues.{live_pts, live_total}
use Rattle.step.specs.Soundness.{queues_sound, processes_sound, total_sound, flag_sound, live_sound, table_sound}
use Rattle.step.proofs.Laws.Counted.{live_counted}
use Rattle.step_soundness.proofs.table_sound.Goals as goal

-- the arrays have their lengths, so the tests of the rest decide
opened : (rows : List Row) (t : Processes) → length t.psw ≡ 64 → length t.queues ≡ 16 → table_sound rows t
    ≡ queues_sound rows 0 t.queues
    && (processes_sound t.psw (live_pts t.queues) && (flag_sound t.flag && (live_sound t && total_sound (live_total t.queues) t.flag)))
unfolding table_sound
opened rows t wide sixteen = simp (eq-eqb _ _ wide, eq-eqb _ _ sixteen)

pub returns-then-not-queues_sound : goal.returns-then-not-queues_sound
returns-then-not-queues_sound c = sym (opened _ c.args.users (search rules) (search rules) ∙ simp (sym c.queues_sound.ensures ∙ c.if-not-queues_sound.true))

pub returns-then-not-processes_sound : goal.returns-then-not-processes_sound
returns-then-not-processes_sound c =
    let q = c.queues_sound in
    let p = c.processes_sound in
    sym (opened _ c.args.users (search rules) (search rules) ∙ simp (sym q.ensures ∙ c.if-not-queues_sound.false, sym p.ensures ∙ c.if-not-processes_sound.true))

pub returns-then-users-gt1 : goal.returns-then-users-gt1
unfolding flag_sound
returns-then-users-gt1 c =
    let q = c.queues_sound in
    let p = c.processes_sound in
    sym (opened _ c.args.users (search rules) (search rules) ∙ simp (sym q.ensures ∙ c.if-not-queues_sound.false, sym p.ensures ∙ c.if-not-processes_sound.false, lt-leb _ _ c.if-users-gt1.true))

pub returns-then-not-live_sound : goal.returns-then-not-live_sound
unfolding flag_sound
returns-then-not-live_sound c =
    let q = c.queues_sound in
    let p = c.processes_sound in
    let l = c.live_sound in
    sym (opened _ c.args.users (search rules) (search rules) ∙ simp (sym q.ensures ∙ c.if-not-queues_sound.false, sym p.ensures ∙ c.if-not-processes_sound.false, le-leb _ _ c.if-users-gt1.false, sym l.ensures ∙ c.if-not-live_sound.true))

pub returns : goal.returns
unfolding flag_sound
returns c =
    let q = c.queues_sound in
    let p = c.processes_sound in
    let l = c.live_sound in
    let live = sym l.ensures ∙ c.if-not-live_sound.false in
    let room = c.total_sound.ensures ∙ ap (λ (n : ℕ). total_sound n c.args.users.flag) (live_counted c.args.users live).1 in
    sym (opened _ c.args.users (search rules) (search rules) ∙ simp (sym q.ensures ∙ c.if-not-queues_sound.false, sym p.ensures ∙ c.if-not-processes_sound.false, le-leb _ _ c.if-users-gt1.false, live, ← room))
