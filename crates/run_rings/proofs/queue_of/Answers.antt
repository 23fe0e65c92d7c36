use Rattle.std.proofs.Common.{◌≡◌, ℕ, ◌+◌, ◌-◌, ◌*◌, refl, ap, ◌∙◌, take, drop, arith}
use Rattle.run_rings.specs.Code.Rings.{queue_at}
use Rattle.run_rings.specs.Laws.Rings.{queue_eq}
use Rattle.run_rings.proofs.queue_of.Goals as goal

pub returns : goal.returns
unfolding queue_at
returns c =
    let a = c.args in
    let m : 64 * a.k + 64 - 64 * a.k ≡ 64 = omega arith in
    queue_eq _ _ _ _ _ _ (c.copy_from_slice.ensures.after ∙ ap (λ (n : ℕ). take n (drop (64 * a.k) a.pts.now)) m) refl refl
