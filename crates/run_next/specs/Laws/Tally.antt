-- One attempt more in the counts side by side.
use Rattle.std.specs.Prelude.{◌≡◌, refl, ◌≢◌, Bool, ◌&&◌, List, ◌∷◌, ℕ, zero, suc, ◌+◌, ◌*◌, ◌≤◌, ◌<◌, eqb, length, set}
use Rattle.std.proofs.Common.{sym, ap₂, ◌∙◌}
use Rattle.std.proofs.Math.Path.{ap}
use Rattle.std.proofs.Math.Bool.{true, false, cond}
use native.Mathlib.Omega.{arith}
use Rattle.std.proofs.Math.ListN.{get_or}
use Rattle.std.proofs.Math.Seq.{get_or-set_same, get_or-set_other}
use Rattle.word.proofs.Laws.Bools.{Eq?, same, differ, eq?}
use Rattle.step.specs.declared.Attempt.{Attempt}
use Rattle.step.specs.declared.Attempt.TheVariants.{Step, Try}
use Rattle.step.specs.declared.Ending.{Ending}
use Rattle.step.specs.declared.Ending.TheVariants.{Executed, Waved, Trapped, Idle}
use Rattle.step.specs.Queues.{numbers}
use Rattle.step.specs.Step.{step_follows}
use Rattle.run.specs.declared.Counts.{Counts}
use Rattle.run.specs.Run.{counts, no_counts, plus, counts_of, summed, own_counts}
use Rattle.run.specs.Code.Attempts.{added}
use Rattle.run.proofs.Laws.Tallies.{plus_none, summed_set}
use Rattle.run_next.specs.Code.Next.{place_after}
use Rattle.run_next.specs.Code.Settled.{place_of}
use Rattle.run_next.specs.Code.Tally.{tally_cells, cell_of, own_in, own_from, all_own, tally_in, attempt_counts}

abbrev one_more : List ℕ → (j : ℕ) → List ℕ
one_more l j = set l j (get_or l j 0 + 1)

-- ---- the counts of task numbers in a row

pub length_from : (l : List ℕ) (t n : ℕ) → length (own_from l t n) ≡ n
unfolding own_from
length_from l t zero = refl
length_from l t (suc n) = ap suc (length_from l (suc t) n)

pub at_from : (l : List ℕ) (t n i : ℕ) → i < n → get_or (own_from l t n) i no_counts ≡ own_in l (t + i)
unfolding own_from
at_from l t zero i h = absurd (omega (arith, h))
at_from l t (suc n) zero h = ap (own_in l) (omega arith)
at_from l t (suc n) (suc i) h = at_from l (suc t) n i (omega (arith, h)) ∙ ap (own_in l) (omega arith)

same_from : (l k : List ℕ) (t n : ℕ) → ((u : ℕ) → t ≤ u → u < t + n → own_in k u ≡ own_in l u) → own_from k t n ≡ own_from l t n
unfolding own_from
same_from l k t zero h = refl
same_from l k t (suc n) h =
    ap₂ {C = List Counts} (λ a b. a ∷ b) (h t (omega arith) (omega arith)) (same_from l k (suc t) n (λ u a b. h u (omega (arith, a)) (omega (arith, b))))

-- all but those of one are the same
set_from : (l k : List ℕ) (t n i : ℕ) → i < n → ((u : ℕ) → t ≤ u → u < t + n → u ≢ t + i → own_in k u ≡ own_in l u) → own_from k t n ≡ set (own_from l t n) i (own_in k (t + i))
unfolding own_from
set_from l k t zero i e h = absurd (omega (arith, e))
set_from l k t (suc n) zero e h =
    ap₂ {C = List Counts} (λ a b. a ∷ b) (ap (own_in k) (omega arith))
    (same_from l k (suc t) n (λ u a b. h u (omega (arith, a)) (omega (arith, b)) (λ q. absurd (omega (arith, a, q)))))
set_from l k t (suc n) (suc i) e h =
    ap₂ {C = List Counts} (λ a b. a ∷ b) (h t (omega arith) (omega arith) (λ q. absurd (omega (arith, q))))
    (set_from l k (suc t) n i (omega (arith, e)) (λ u a b q. h u (omega (arith, a)) (omega (arith, b)) (λ z. q (omega (arith, z))))
    ∙ ap (λ (j : ℕ). set (own_from l (suc t) n) i (own_in k j)) (omega arith))

-- ---- one cell more

-- the cell is place k of the task
unfoldable pub one : (b : Bool) (j k : ℕ) → ℕ
one b j k = cond (b && eqb j k) 1 0

unfoldable pub share : Bool → (k : ℕ) → Counts
share b k =
    counts (one b 0 k + one b 4 k) (one b 1 k + one b 5 k) (one b 2 k + one b 6 k) (one b 3 k)
    (one b 4 k + one b 5 k + one b 6 k + one b 7 k + one b 8 k)

module _ (l : List ℕ) (wide : length l ≡ tally_cells) (t : ℕ) (small : t < numbers) (k : ℕ) (fits : k ≤ 9) where
  abbrev more : List ℕ
  more = one_more l (numbers * k + t)

  cell_more : (u : ℕ) → u < numbers → (b : Bool) → Eq? u t b → (j : ℕ) → cell_of more j u ≡ cell_of l j u + one b j k
  unfolding one
  cell_more u h true (same q) j = go (eqb j k) (eq? j k)
    where
      go : (c : Bool) → Eq? j k c → cell_of more j u ≡ cell_of l j u + cond c 1 0
      go true (same e) =
          let at : numbers * j + u ≡ numbers * k + t = omega (arith, e, q) in
          ap (λ (i : ℕ). get_or more i 0) at ∙ get_or-set_same l (numbers * k + t) (get_or l (numbers * k + t) 0 + 1) 0 (omega (arith, wide, small, fits))
          ∙ ap (λ (i : ℕ). get_or l i 0 + 1) (sym at)
      go false (differ e) =
          get_or-set_other l (numbers * k + t) (numbers * j + u) (get_or l (numbers * k + t) 0 + 1) 0 (λ z. e (omega (arith, z, q)))
          ∙ omega arith
  cell_more u h false (differ q) j =
      get_or-set_other l (numbers * k + t) (numbers * j + u) (get_or l (numbers * k + t) 0 + 1) 0 (λ z. q (omega (arith, z, h, small)))
      ∙ omega arith

  own_more : (u : ℕ) → u < numbers → (b : Bool) → Eq? u t b → own_in more u ≡ plus (own_in l u) (share b k)
  unfolding own_in plus share
  own_more u h b e =
      let c = cell_more u h b e in
      λ i. record {
        executed = two 0 4 i;
        waved = two 1 5 i;
        trapped = two 2 6 i;
        idle = c 3 i;
        tries = tries_more i;
      }
    where
      two : (j m : ℕ) → cell_of more j u + cell_of more m u ≡ cell_of l j u + cell_of l m u + (one b j k + one b m k)
      two j m = omega (arith, cell_more u h b e j, cell_more u h b e m)

      tries_more : cell_of more 4 u + cell_of more 5 u + cell_of more 6 u + cell_of more 7 u + cell_of more 8 u
          ≡ cell_of l 4 u + cell_of l 5 u + cell_of l 6 u + cell_of l 7 u + cell_of l 8 u + (one b 4 k + one b 5 k + one b 6 k + one b 7 k + one b 8 k)
      tries_more = omega (arith, cell_more u h b e 4, cell_more u h b e 5, cell_more u h b e 6, cell_more u h b e 7, cell_more u h b e 8)

  nothing_more : (u : ℕ) → plus (own_in l u) (share false k) ≡ own_in l u
  unfolding share one
  nothing_more u = plus_none (own_in l u)

  own_others : (u : ℕ) → u < numbers → u ≢ t → own_in more u ≡ own_in l u
  own_others u h n = own_more u h false (differ n) ∙ nothing_more u

  pub tally_more : tally_in more ≡ added t (share true k) (tally_in l)
  unfolding tally_in added own_counts
  tally_more = λ i. record { counts = (ap summed own ∙ summed_set (share true k) (all_own l) t (omega (arith, small, length_from l 0 numbers))) i; own = own i }
    where
      here : get_or (all_own l) t no_counts ≡ own_in l t
      here = at_from l 0 numbers t small ∙ ap (own_in l) (omega arith)

      own : all_own more ≡ set (all_own l) t (plus (get_or (all_own l) t no_counts) (share true k))
      own =
          set_from l more 0 numbers t small (λ u a b n. own_others u (omega (arith, b)) (λ z. n (omega (arith, z))))
          ∙ ap (set (all_own l) t) (ap (own_in more) (omega arith) ∙ own_more t small true (same refl) ∙ ap (λ (c : Counts). plus c (share true k)) (sym here))

-- ---- an item without an attempt, and an attempt

module _ (l : List ℕ) (t : ℕ) (small : t < numbers) (wide : length l ≡ tally_cells) where
  pub idle_more : tally_in (set l (3 * numbers + t) (get_or l (3 * numbers + t) 0 + 1)) ≡ added t (counts_of Idle 0) (tally_in l)
  unfolding counts_of share one
  idle_more = tally_more l wide t small 3 (omega arith)

  pub attempt_more : (a : Attempt) (had : Bool) (e : Ending) → e ≢ Idle
      → tally_in (set l (place_of a had e + t) (get_or l (place_of a had e + t) 0 + 1)) ≡ added t (attempt_counts a had e) (tally_in l)
  unfolding place_of place_after attempt_counts step_follows counts_of share one
  attempt_more Step had Executed n = tally_more l wide t small 0 (omega arith)
  attempt_more Step had Waved n = tally_more l wide t small 1 (omega arith)
  attempt_more Step had (Trapped k p) n = tally_more l wide t small 2 (omega arith)
  attempt_more Try true Executed n = tally_more l wide t small 7 (omega arith)
  attempt_more Try false Executed n = tally_more l wide t small 4 (omega arith)
  attempt_more Try true Waved n = tally_more l wide t small 8 (omega arith)
  attempt_more Try false Waved n = tally_more l wide t small 5 (omega arith)
  attempt_more Try had (Trapped k p) n = tally_more l wide t small 6 (omega arith)
  attempt_more a had Idle n = absurd (n refl)
