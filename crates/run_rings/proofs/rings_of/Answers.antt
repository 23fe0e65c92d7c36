use Rattle.std.proofs.Common.{◌≡◌, ℕ, ◌*◌, List, refl, ap, ◌∙◌, length, get_or, set, length-set, rules, arith}
use Rattle.std.proofs.Math.Seq.{paste}
use Rattle.std.proofs.lemmas.List.Edits.{length-paste}
use Rattle.step.specs.State.{no_queue}
use Rattle.run_rings.specs.Code.Rings.{ring_count}
use Rattle.run_rings.specs.Code.Laid.{rings, queue_laid, queues_laid}
use Rattle.run_rings.specs.Laws.Copies.{put_moves, rings_start, rings_go, rings_full}
use Rattle.run_rings.specs.Laws.Laid.{queue_goes, queues_done}
use Rattle.run_rings.proofs.rings_of.Goals as goal

pub loop-k-init : goal.loop-k-init
unfolding queues_laid
loop-k-init c = (refl, refl, refl, refl, rings_start c.args.queues _ _ _)

pub loop-k-preserved : goal.loop-k-preserved
unfolding queue_laid
loop-k-preserved c =
    let a = c.args in
    let l = c.loop-k in
    let x = l.rings in
    let q = get_or a.queues l.k no_queue in
    let e : length a.queues ≡ ring_count = search rules in
    let f : length q.pts ≡ 64 = search rules in
    let p = c.lay.ensures ∙ ap (λ (n : ℕ). paste x.pts (n * l.k) q.pts n) f in (
      ap length p ∙ length-paste x.pts (64 * l.k) q.pts 64 (omega arith) (omega arith) ∙ l.invariant.0,
      length-set x.heads l.k q.head ∙ l.invariant.1,
      length-set x.lens l.k q.len ∙ l.invariant.2,
      queue_goes a.queues l.k x _ (omega arith) (ap (λ (y : List ℕ). rings y (set x.heads l.k q.head) (set x.lens l.k q.len)) p) l.invariant.3,
      rings_go a.queues l.k _ _ _ _ _ _ (omega arith) (put_moves x.pts x.heads x.lens l.k q (omega arith) (omega arith) (omega arith) f _ p) l.invariant.4,
    )

pub returns : goal.returns
returns c =
    let a = c.args in
    let l = c.loop-k in
    let e : length a.queues ≡ ring_count = search rules in
    (queues_done a.queues l.k l.rings (omega arith) l.invariant.3, rings_full a.queues l.k l.rings.pts l.rings.heads l.rings.lens e (omega arith) l.invariant.4)
