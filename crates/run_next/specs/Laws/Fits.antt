-- The two queues of a task together hold no more processes than live.
use Rattle.std.specs.Prelude.{◌≢◌, List, ℕ, ◌+◌, ◌*◌, ◌≤◌, ◌<◌, length, get_or, set}
use Rattle.std.proofs.Common.{ap, arith, length-set, get_or-set_other}
use Rattle.step.specs.declared.Queue.{Queue}
use Rattle.step.specs.Queues.{numbers, live_pts, live_total}
use Rattle.step.specs.State.{no_queue, queue_in}
use Rattle.step.proofs.Laws.Queues.{length_live, len_get}
use Rattle.run_rings.specs.Code.Rings.{queues_in}
use Rattle.run_rings.specs.Laws.Rings.{len_in, length_in}

both : (qs : List Queue) (i j : ℕ) → i < length qs → j < length qs → j ≢ i → (get_or qs i no_queue).len + (get_or qs j no_queue).len ≤ length (live_pts qs)
both qs i j h k n =
    omega (arith, length_live qs i no_queue h, len_get (set qs i no_queue) j (omega (arith, k, length-set qs i no_queue)), ap (λ (q : Queue). q.len) (get_or-set_other qs i j no_queue no_queue n))

pub both_fit : (t : ℕ) (a b c : List ℕ) → t < numbers → get_or c (2 * t) 0 + get_or c (2 * t + 1) 0 ≤ live_total (queues_in a b c)
unfolding live_total queue_in
both_fit t a b c h =
    omega (
      arith,
      len_in a b c (2 * t) (omega (arith, h)),
      len_in a b c (2 * t + 1) (omega (arith, h)),
      both (queues_in a b c) (2 * t) (2 * t + 1) (omega (arith, h, length_in a b c)) (omega (arith, h, length_in a b c)) (λ e. omega (arith, e)),
    )
