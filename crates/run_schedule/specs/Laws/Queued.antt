-- How an attempt of a task ends in its rings and next attempts.
use Rattle.std.specs.Prelude.{◌≡◌, ◌≢◌, false, ℕ, ◌+◌, ◌*◌, ◌≤◌, get_or, set}
use Rattle.std.proofs.Common.{sym, ap, ◌∙◌}
use Rattle.step.specs.declared.Attempt.{Attempt}
use Rattle.step.specs.declared.Attempt.TheVariants.{Step, Try}
use Rattle.step.specs.declared.Motion.{Motion}
use Rattle.step.specs.Code.Parts.{moved_queues}
use Rattle.operation.specs.declared.Course.{Course}
use Rattle.run_rings.specs.declared.Rings.{Rings}
use Rattle.run_next.specs.declared.Next.{Next}
use Rattle.run_next.specs.declared.NextRole.TheVariants.{Tries, Follows, Several, Alone}
use Rattle.run_next.specs.Code.Next.{standing, attempt_at, had_in, place_after}
use Rattle.run_next.specs.Code.Settled.{Ready}
use Rattle.run_next.specs.Laws.Next.{Own, Only, Many, acts_own, acts_sfu, acts_here, acts_alone, acts_several, ends_step, ends_try}
use Rattle.run_schedule.specs.declared.Queued.{Queued}
use Rattle.run_schedule.specs.declared.Carried.{Carried}
use Rattle.run_schedule.specs.Code.Carried.{lines_of}
use Rattle.run_schedule.specs.Code.Queued.{all_queues, QueuedGoes, Acts}

pub acts_of : (t : ℕ) (n : Next) (c : Course) (r : Carried) → Ready t n c (lines_of r) → Acts t n r.queued
acts_of t n c r q = record { small = q.small; next = q.next; acting = q.acting; fits = q.fits }

module _ (t : ℕ) (n : Next) (q : Queued) (h : Acts t n q) where
  pub own_some : n.role ≢ Tries → 1 ≤ get_or q.rings.lens (2 * t) 0
  own_some r = acts_own t q.next n q.rings.pts q.rings.heads q.rings.lens h.small h.next h.acting r

  pub sfu_some : n.role ≡ Tries → 1 ≤ get_or q.rings.lens (2 * t + 1) 0
  sfu_some r = acts_sfu t q.next n q.rings.pts q.rings.heads q.rings.lens h.small h.next h.acting r

  pub own_here : n.role ≢ Tries → n.role ≢ Follows → Own t n.role q.rings.lens
  own_here r s = acts_here t q.next n q.rings.pts q.rings.heads q.rings.lens h.small h.next h.acting r s

  pub only_one : n.role ≡ Alone → Only t q.next n q.rings.pts q.rings.heads q.rings.lens h.small h.next
  only_one r = acts_alone t q.next n q.rings.pts q.rings.heads q.rings.lens h.small h.next h.acting r

  pub one_of_many : n.role ≡ Several → Many t q.next n q.rings.pts q.rings.heads q.rings.lens h.small h.next
  one_of_many r = acts_several t q.next n q.rings.pts q.rings.heads q.rings.lens h.small h.next h.acting r

  module _ (place r : ℕ) (m : Attempt → Motion) (q' : Queued) where
    pub ends_stepped : n.role ≢ Tries → r ≡ place → all_queues q'.rings ≡ moved_queues (m Step) Step t (all_queues q.rings) → q'.next ≡ set q.next t (standing false t (all_queues q'.rings))
        → (r ≡ place_after (attempt_at t q.next) (had_in t q.rings.lens) place) × QueuedGoes t m q q'
    ends_stepped s e f g =
        ends_step t place r (had_in t q.rings.lens) m q.rings.pts q.rings.heads q.rings.lens q.next q'.rings.pts q'.rings.heads q'.rings.lens q'.next n h.next s e f g

    pub ends_tried : (mid : Rings) → n.role ≡ Tries → r ≡ place_after Try (had_in t q.rings.lens) place → q'.rings ≡ mid
        → q'.next ≡ set q.next t (standing (had_in t q.rings.lens) t (all_queues mid)) → all_queues mid ≡ moved_queues (m Try) Try t (all_queues q.rings)
        → (r ≡ place_after (attempt_at t q.next) (had_in t q.rings.lens) place) × QueuedGoes t m q q'
    ends_tried mid s e f g k =
        ends_try t place r (had_in t q.rings.lens) m q.rings.pts q.rings.heads q.rings.lens q.next q'.rings.pts q'.rings.heads q'.rings.lens q'.next n h.next s e (ap all_queues f ∙ k)
        (g ∙ ap (λ (x : Rings). set q.next t (standing (had_in t q.rings.lens) t (all_queues x))) (sym f))
