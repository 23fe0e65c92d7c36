-- The word of free PTs over queues: made queue by queue; and with the number of live processes and the lowest free PT, what each motion does to it.
use Rattle.std.specs.Prelude.{◌≡◌, refl, ◌≢◌, List, [], ◌∷◌, ◌++◌, ℕ, zero, suc, ◌+◌, ◌-◌, ◌^◌, ◌≤◌, ◌<◌, length, get_or, drop}
use Rattle.std.proofs.Common.{sym, ◌∙◌, arith}
use Rattle.std.proofs.Math.Path.{ap, subst}
use Rattle.std.specs.Int.Count.{count_trailing_zeros}
use Rattle.step.specs.declared.Queue.{Queue}
use Rattle.step.specs.Queues.{list_of, head_of, live_pts, live_total, occ, free_from, lowest_free}
use Rattle.step.specs.State.{no_queue, queue_in}
use Rattle.step.specs.Act.{turned_at, left_at, joined_at, passed_to}
use Rattle.step.proofs.Laws.Occurrences.{hit_same, Free, free_spec, length_once}
use Rattle.step.proofs.Laws.Queues.{live_next, live_none}
use Rattle.step.proofs.Laws.Motions.{Tidy, turn_occ, turn_length, join_occ, join_length, leave_occ, leave_length, leave_free, pass_occ, pass_length}
use Rattle.step_queue.specs.Code.Mask.{without, free_after}
use Rattle.run_rings.specs.Code.Mask.{free_word, Frees}
use Rattle.run_rings.specs.Laws.Mask.{lowest_free_lem, free_le, frees_same, Adds, frees_taken, given_lt, frees_given, frees_after, frees_only}

-- ---- the word made queue by queue
after_append : (xs ys : List ℕ) (z : ℕ) → free_after (xs ++ ys) z ≡ free_after ys (free_after xs z)
unfolding free_after
after_append [] ys z = refl
after_append (x ∷ xs) ys z = after_append xs ys (without z x)

pub queues_go : (qs : List Queue) (k z r s : ℕ) → k < length qs → r ≡ free_after (list_of (get_or qs k no_queue)) z → free_after (live_pts (drop k qs)) z ≡ s
    → free_after (live_pts (drop (k + 1) qs)) r ≡ s
queues_go qs k z r s h e i =
    ap (free_after (live_pts (drop (k + 1) qs))) e
    ∙ sym (after_append (list_of (get_or qs k no_queue)) (live_pts (drop (k + 1) qs)) z)
    ∙ sym (ap (λ (l : List ℕ). free_after l z) (live_next qs k h)) ∙ i

pub queues_end : (qs : List Queue) (k z s : ℕ) → length qs ≤ k → free_after (live_pts (drop k qs)) z ≡ s → z ≡ s
unfolding free_after
queues_end qs k z s h i = sym (ap (λ (l : List ℕ). free_after l z) (live_none qs k h)) ∙ i

-- ---- the lowest free PT

-- the lowest one of the word is the lowest free PT
pub lowest_is : (qs : List Queue) → count_trailing_zeros 64 (free_word qs) ≡ lowest_free qs
unfolding lowest_free
lowest_is qs = lowest_free_lem (free_word qs) (live_pts qs) (frees_after (live_pts qs))

module _ (qs : List Queue) where
  said : Frees (free_word qs) (live_pts qs)
  said = frees_after (live_pts qs)

  pub free_fits : (p : ℕ) → Free p 64 (live_pts qs) → 2 ^ p ≤ free_word qs
  free_fits p f = free_le (free_word qs) p (live_pts qs) said f.small f.none_such

  -- fewer than 64 live: the lowest one of the word is a free PT
  module _ (few : live_total qs < 64) where
    pub lowest_free_pt : Free (count_trailing_zeros 64 (free_word qs)) 64 (live_pts qs)
    unfolding lowest_free live_total
    lowest_free_pt = subst (λ (p : ℕ). Free p 64 (live_pts qs)) (sym (lowest_is qs)) (free_spec 64 (live_pts qs) few)

    pub lowest_lt : count_trailing_zeros 64 (free_word qs) < 64
    lowest_lt = lowest_free_pt.small

    pub lowest_fits : 2 ^ count_trailing_zeros 64 (free_word qs) ≤ free_word qs
    lowest_fits = free_fits (count_trailing_zeros 64 (free_word qs)) lowest_free_pt

-- a number that the search for a free one answers is not in the list
free_absent : (n i : ℕ) (l : List ℕ) → free_from n i l < n + i → occ (free_from n i l) l ≡ 0
unfolding free_from
free_absent zero i l h = absurd (omega arith)
free_absent (suc n) i l h = go (occ i l) refl h (λ k. free_absent n (suc i) l k)
  where
    go : (o : ℕ) → occ i l ≡ o → elim o [ zero ↦ i | suc k ↦ free_from n (suc i) l ] < suc n + i
        → (free_from n (suc i) l < n + suc i → occ (free_from n (suc i) l) l ≡ 0) → occ (elim o [ zero ↦ i | suc k ↦ free_from n (suc i) l ]) l ≡ 0
    go zero e h ih = e
    go (suc k) e h ih = ih (omega (arith, h))

-- ---- motions

module _ (qs : List Queue) {psw : List ℕ} (tidy : Tidy psw qs) where
  pub total_le : live_total qs ≤ 64
  unfolding live_total
  total_le = length_once 64 (live_pts qs) tidy.once tidy.small

  module _ (k : ℕ) (high : k < 16) where
    -- head to tail
    pub word_turned : free_word (turned_at qs k) ≡ free_word qs
    word_turned =
        frees_only (free_word qs) (live_pts (turned_at qs k)) (frees_same (free_word qs) (live_pts qs) (live_pts (turned_at qs k)) (said qs) (turn_occ tidy k high))

    pub total_turned : live_total (turned_at qs k) ≡ live_total qs
    unfolding live_total
    total_turned = turn_length tidy k high

    pub free_turned : (p : ℕ) → Free p 64 (live_pts qs) → Free p 64 (live_pts (turned_at qs k))
    free_turned p f = record { none_such = turn_occ tidy k high p ∙ f.none_such; small = f.small }

    -- a free PT joins
    module _ (p : ℕ) (f : Free p 64 (live_pts qs)) where
      pub word_joined : free_word (joined_at qs k p) ≡ free_word qs - 2 ^ p
      word_joined =
          frees_only (free_word qs - 2 ^ p) (live_pts (joined_at qs k p))
          (frees_taken (free_word qs) p (live_pts qs) (live_pts (joined_at qs k p)) (said qs) f.small (record { absent = f.none_such; more = join_occ tidy k high p f }))

      pub total_joined : live_total (joined_at qs k p) ≡ live_total qs + 1
      unfolding live_total
      total_joined = omega (arith, join_length tidy k high p f)

    -- the head of a queue with processes, and that it leaves
    module _ (some : (queue_in qs k).len ≢ 0) where
      left_adds : Adds (head_of (queue_in qs k)) (live_pts (left_at qs k)) (live_pts qs)
      left_adds = record { absent = (leave_free tidy k high some).none_such; more = λ j. sym (leave_occ tidy k high some j) }

      pub head_lt : head_of (queue_in qs k) < 64
      head_lt = (leave_free tidy k high some).small

      pub head_fits : free_word qs + 2 ^ head_of (queue_in qs k) < 2 ^ 64
      head_fits = given_lt (free_word qs) (head_of (queue_in qs k)) (live_pts (left_at qs k)) (live_pts qs) (said qs) head_lt left_adds

      pub some_live : 0 < live_total qs
      unfolding live_total
      some_live = omega (arith, leave_length tidy k high some)

      -- it is live, and so not the lowest free PT
      pub head_not_lowest : head_of (queue_in qs k) ≢ count_trailing_zeros 64 (free_word qs)
      unfolding lowest_free
      head_not_lowest e =
          let i : head_of (queue_in qs k) ≡ free_from 64 0 (live_pts qs) = e ∙ lowest_is qs in
          let a : occ (head_of (queue_in qs k)) (live_pts qs) ≡ 0 =
          ap (λ (p : ℕ). occ p (live_pts qs)) i ∙ free_absent 64 0 (live_pts qs) (omega (arith, i, head_lt)) in
          omega (arith, a, leave_occ tidy k high some (head_of (queue_in qs k)), hit_same (head_of (queue_in qs k)))

      pub word_left : free_word (left_at qs k) ≡ free_word qs + 2 ^ head_of (queue_in qs k)
      word_left =
          frees_only (free_word qs + 2 ^ head_of (queue_in qs k)) (live_pts (left_at qs k))
          (frees_given (free_word qs) (head_of (queue_in qs k)) (live_pts (left_at qs k)) (live_pts qs) (said qs) head_lt left_adds)

      pub total_left : live_total (left_at qs k) ≡ live_total qs - 1
      unfolding live_total
      total_left = omega (arith, leave_length tidy k high some)

  -- the head of one queue passes to another
  module _ (j k : ℕ) (from : j < 16) (to : k < 16) (apart : j ≢ k) (some : (queue_in qs j).len ≢ 0) where
    pub word_passed : free_word (passed_to qs j k) ≡ free_word qs
    word_passed =
        frees_only (free_word qs) (live_pts (passed_to qs j k))
        (frees_same (free_word qs) (live_pts qs) (live_pts (passed_to qs j k)) (said qs) (pass_occ tidy j k from to apart some))

    pub total_passed : live_total (passed_to qs j k) ≡ live_total qs
    unfolding live_total
    total_passed = pass_length tidy j k from to apart some

    pub free_passed : (p : ℕ) → Free p 64 (live_pts qs) → Free p 64 (live_pts (passed_to qs j k))
    free_passed p f = record { none_such = pass_occ tidy j k from to apart some p ∙ f.none_such; small = f.small }
