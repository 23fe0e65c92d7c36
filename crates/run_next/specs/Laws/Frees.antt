-- The word of free PTs and the number of live processes behind an attempt.
use Rattle.std.specs.Prelude.{◌≡◌, refl, ◌≢◌, Bool, List, ℕ, ◌+◌, ◌-◌, ◌^◌, ◌<◌}
use Rattle.std.proofs.Common.{sym, ap, ◌∙◌, arith}
use Rattle.std.proofs.Math.Bool.{true, false}
use Rattle.std.specs.Int.Count.{count_trailing_zeros}
use Rattle.run_rings.specs.Code.Rings.{ring_count}
use Rattle.operation.specs.declared.Course.{Course}
use Rattle.operation.specs.declared.Course.TheVariants as go
use Rattle.step.specs.declared.Attempt.{Attempt}
use Rattle.step.specs.declared.Attempt.TheVariants.{Step, Try}
use Rattle.step.specs.declared.Queue.{Queue}
use Rattle.step.specs.Queues.{pt_count, own_number, sfu_number, acting_number, head_of, live_pts, live_total}
use Rattle.step.specs.State.{queue_in}
use Rattle.step.specs.Act.{turned_at, left_at, joined_at, passed_to}
use Rattle.step.specs.Code.Parts.{executed_motion, created_motion, waved_motion, other_number, moved_queues}
use Rattle.step.specs.Code.Performs.{course_result}
use Rattle.step.proofs.Laws.Act.{own_inside, sfu_inside, acting_inside}
use Rattle.step.proofs.Laws.Occurrences.{Free}
use Rattle.step.proofs.Laws.Motions.{Tidy, turn_tidy, pass_tidy}
use Rattle.run_rings.specs.Code.Mask.{free_word}
use Rattle.run_rings.specs.Laws.Live.{lowest_free_pt, word_turned, total_turned, free_turned, word_joined, total_joined, word_left, total_left, word_passed, total_passed, free_passed}
use Rattle.run_next.specs.Code.Settled.{free_by, count_by}

other_small : (a : Attempt) (t : ℕ) → other_number a t < ring_count
unfolding other_number
other_small Step t = sfu_inside t
other_small Try t = own_inside t

apart : (a : Attempt) (t : ℕ) → acting_number a t ≢ other_number a t
unfolding acting_number other_number own_number sfu_number
apart Step t = λ e. omega (arith, e)
apart Try t = λ e. omega (arith, e)

-- the word of free PTs and the number of live processes are those of the queues
pub record Fit (z n : ℕ) (qs : List Queue) : Type 0 where
  pub frees : z ≡ free_word qs
  pub counted : n ≡ live_total qs

module _ {psw : List ℕ} (qs : List Queue) (tidy : Tidy psw qs) (t p pt : ℕ) (below : Bool) where
  abbrev fresh : ℕ
  fresh = count_trailing_zeros 64 (free_word qs)

  stays : Fit (free_word qs) (live_total qs) qs
  stays = record { frees = refl; counted = refl }

  turns : (k : ℕ) → k < ring_count → Fit (free_word qs) (live_total qs) (turned_at qs k)
  turns k h = record { frees = sym (word_turned qs tidy k h); counted = sym (total_turned qs tidy k h) }

  module _ (a : Attempt) (some : (queue_in qs (acting_number a t)).len ≢ 0) where
    passes : Fit (free_word qs) (live_total qs) (passed_to qs (acting_number a t) (other_number a t))
    passes = record {
      frees = sym (word_passed qs tidy (acting_number a t) (other_number a t) (acting_inside a t) (other_small a t) (apart a t) some);
      counted = sym (total_passed qs tidy (acting_number a t) (other_number a t) (acting_inside a t) (other_small a t) (apart a t) some);
    }

    leaves : Fit (free_word qs + 2 ^ head_of (queue_in qs (acting_number a t))) (live_total qs - 1) (left_at qs (acting_number a t))
    leaves = record {
      frees = sym (word_left qs tidy (acting_number a t) (acting_inside a t) some);
      counted = sym (total_left qs tidy (acting_number a t) (acting_inside a t) some);
    }

  -- the lowest free PT joins queues with the same word and number
  joins : (qs' : List Queue) → Tidy psw qs' → Free fresh pt_count (live_pts qs') → Fit (free_word qs) (live_total qs) qs'
      → Fit (free_word qs - 2 ^ fresh) (live_total qs + 1) (joined_at qs' (own_number t) fresh)
  joins qs' tidy' free u = record {
    frees = ap (λ (z : ℕ). z - 2 ^ fresh) u.frees ∙ sym (word_joined qs' tidy' (own_number t) (own_inside t) fresh free);
    counted = ap (λ (n : ℕ). n + 1) u.counted ∙ sym (total_joined qs' tidy' (own_number t) (own_inside t) fresh free);
  }

  module _ (room : live_total qs < pt_count) where
    fault : Fit (free_word qs - 2 ^ fresh) (live_total qs + 1) (joined_at qs (own_number t) fresh)
    fault = joins qs tidy (lowest_free_pt qs room) stays

    step_creates : Fit (free_word qs - 2 ^ fresh) (live_total qs + 1) (joined_at (turned_at qs (own_number t)) (own_number t) fresh)
    step_creates =
        let k = own_number t in
        joins (turned_at qs k) (turn_tidy tidy k (own_inside t)) (free_turned qs tidy k (own_inside t) fresh (lowest_free_pt qs room)) (turns k (own_inside t))

    try_creates : (queue_in qs (sfu_number t)).len ≢ 0 → Fit (free_word qs - 2 ^ fresh) (live_total qs + 1) (joined_at (passed_to qs (sfu_number t) (own_number t)) (own_number t) fresh)
    unfolding acting_number other_number
    try_creates some =
        let j = sfu_number t in
        let k = own_number t in
        joins (passed_to qs j k) (pass_tidy tidy j k (sfu_inside t) (own_inside t) (apart Try t) some)
        (free_passed qs tidy j k (sfu_inside t) (own_inside t) (apart Try t) some fresh (lowest_free_pt qs room)) (passes Try some)

  creates : (a : Attempt) (b : Bool) → (queue_in qs (acting_number a t)).len ≢ 0 → live_total qs < pt_count
      → Fit (free_word qs - 2 ^ fresh) (live_total qs + 1) (moved_queues (course_result a fresh b p go.Creates).motion a t qs)
  unfolding course_result moved_queues created_motion acting_number other_number
  creates Step true some room = step_creates room
  creates Try true some room = try_creates room some
  creates a false some room = fault room

  -- of a course, the process having the PT pt
  pub course_fits : (a : Attempt) (c : Course) → (queue_in qs (acting_number a t)).len ≢ 0 → pt ≡ head_of (queue_in qs (acting_number a t)) → (c ≡ go.Creates → live_total qs < pt_count)
      → Fit (free_by c pt (free_word qs)) (count_by c (live_total qs)) (moved_queues (course_result a fresh below p c).motion a t qs)
  unfolding free_by count_by course_result moved_queues executed_motion waved_motion
  course_fits Step go.Continues some head room = turns (acting_number Step t) (acting_inside Step t)
  course_fits Try go.Continues some head room = passes Try some
  course_fits a go.Waits some head room = turns (acting_number a t) (acting_inside a t)
  course_fits Step go.WaitsForData some head room = passes Step some
  course_fits Try go.WaitsForData some head room = turns (acting_number Try t) (acting_inside Try t)
  course_fits a go.Quits some head room = rw head (leaves a some)
  course_fits a go.Creates some head room = creates a below some (room refl)
  course_fits a go.CreateFault some head room = stays
  course_fits a go.IllegalInstruction some head room = stays
  course_fits a go.ProtectionViolation some head room = stays
  course_fits a go.PrivilegedInstruction some head room = stays
  course_fits a go.SupervisorCall some head room = stays
  course_fits a go.SimulatedInstruction some head room = stays
  course_fits a go.DataException some head room = stays
