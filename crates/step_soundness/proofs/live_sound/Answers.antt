use Rattle.std.proofs.Common.{◌≡◌, ◌*◌, length, drop_of_length-le, rules, arith}
use Rattle.step.specs.State.{no_queue}
use Rattle.step.specs.Soundness.{live_sound}
use Rattle.step_soundness.proofs.Loops.{next_of_lem, two_of, tested, count_differs, count_over, count_goes, count_ends}
use Rattle.step_soundness.proofs.live_sound.Goals as goal

pub returns-then-count-own : goal.returns-then-count-own
unfolding tested live_sound
returns-then-count-own c =
    let u = c.args.users in
    let f : length u.queues ≡ 16 = search rules in
    let g : length u.live ≡ 8 = search rules in
    let l = c.loop-k in
    count_differs l.left (next_of_lem u.live l.k 0 (omega arith)) (two_of u.queues l.k no_queue (omega arith)) l.invariant (λ e. omega (arith, e, c.if-count-own.true))

pub returns-then-count-own-2 : goal.returns-then-count-own-2
unfolding tested live_sound
returns-then-count-own-2 c =
    let u = c.args.users in
    let f : length u.queues ≡ 16 = search rules in
    let g : length u.live ≡ 8 = search rules in
    let l = c.loop-k in
    count_differs l.left (next_of_lem u.live l.k 0 (omega arith)) (two_of u.queues l.k no_queue (omega arith)) l.invariant (λ e. c.if-count-own-2.true (omega (arith, e)))

pub returns-then-left-count : goal.returns-then-left-count
unfolding tested live_sound
returns-then-left-count c =
    let u = c.args.users in
    let f : length u.queues ≡ 16 = search rules in
    let g : length u.live ≡ 8 = search rules in
    let l = c.loop-k in
    count_over l.left (next_of_lem u.live l.k 0 (omega arith)) (two_of u.queues l.k no_queue (omega arith)) l.invariant (omega (arith, c.if-left-count.true, c.if-count-own-2.false, c.if-count-own.false))

pub loop-k-preserved : goal.loop-k-preserved
loop-k-preserved c =
    let u = c.args.users in
    let f : length u.queues ≡ 16 = search rules in
    let g : length u.live ≡ 8 = search rules in
    let l = c.loop-k in
    count_goes l.left (next_of_lem u.live l.k 0 (omega arith)) (two_of u.queues l.k no_queue (omega arith)) l.invariant (omega (arith, c.if-count-own-2.false, c.if-count-own.false)) c.if-left-count.false

pub returns : goal.returns
unfolding tested live_sound
returns c =
    let u = c.args.users in
    let f : length u.queues ≡ 16 = search rules in
    let g : length u.live ≡ 8 = search rules in
    let l = c.loop-k in
    count_ends l.left (drop_of_length-le u.live {i = l.k} (omega arith)) (drop_of_length-le u.queues {i = 2 * l.k} (omega arith)) l.invariant
