-- The PTs one by one: the loops over a ring and over the queues, and what it says that they stay sound.
use Prim.Native.Nat.{ℕ, zero, suc, ◌+◌, ◌-◌, ◌%◌, ◌≤◌, ◌<◌}
use mathlib.Core.Path.{◌≡◌, refl, sym, ap, ◌∙◌}
use mathlib.Core.Logic.{◌≢◌}
use mathlib.Core.Bool.{Bool, true, false, cond, not, ◌&&◌, false≢true}
use mathlib.Core.List.{List, [], ◌∷◌, ◌++◌}
use native.Mathlib.Omega.{arith}
use lib.ListN.{length, get_or, set, drop, replicate, length-set, get_or-replicate}
use lib.Seq.{get_or-set_same, get_or-set_other}
use lib.Dec.{eqb, leb, ltb}
use borrow.Author.Tests.{ltb-true, le-ltb}
use Rattle.word.specs.Fields.{psw_sound}
use Rattle.word.proofs.Laws.Bools.{Eq?, same, differ, eq?, Le?, below, above, le?, and_left, and_right}
use Rattle.word.proofs.Laws.Conjunctions.{also}
use Rattle.step.specs.declared.Queue.{Queue}
use Rattle.step.specs.Queues.{ring, list_of, live_pts, occ}
use Rattle.step.specs.State.{no_queue, psws_of}
use Rattle.step.specs.Soundness.{every, distinct, pt_sound, processes_sound}
use Rattle.step.proofs.Laws.Queues.{ring_same, ring_first, live_next, live_none}
use Rattle.step.proofs.Laws.Occurrences.{occ_nil, occ_cons, hit_same, hit_differ}
use Rattle.step.proofs.Laws.Every.{every_at, every_of, every_map, once_of, distinct_of}
use Rattle.std.specs.Prelude.{Option, Some, None, is_some}
use Rattle.step_soundness.specs.Code.Seen.{fresh, seen_after}

pub zero_of : (n : ℕ) → (n ≢ 0 → ⊥) → n ≡ 0
zero_of zero h = refl
zero_of (suc n) h = absurd (h (λ e. omega arith))

-- two tests that hold together
together : (a b : Bool) → (a ≡ true → b ≡ true) → (b ≡ true → a ≡ true) → a ≡ b
together true b f g = sym (f refl)
together false true f g = g refl
together false false f g = refl

-- ---- over a ring

module _ (psw : List ℕ) where
  pub ring_starts : (q : Queue) (s : List Bool) → seen_after psw (ring q.pts (q.head % 64) (q.len - 0)) s ≡ seen_after psw (list_of q) s
  unfolding list_of
  ring_starts q s =
      let none : q.len - 0 ≡ q.len = omega arith in
      ap (λ (n : ℕ). seen_after psw (ring q.pts (q.head % 64) n) s) none
      ∙ ap (λ (l : List ℕ). seen_after psw l s) (ring_same q.pts (q.head % 64) q.head q.len (omega arith))

  module _ (a : List ℕ) (h n i : ℕ) (s : List Bool) {w : Option (List Bool)} (p : h < 64) (q : i < n) (v : seen_after psw (ring a h (n - i)) s ≡ w) where
    abbrev rest : List Bool → Option (List Bool)
    rest r = seen_after psw (ring a ((h + 1) % 64) (n - (i + 1))) r

    first_seen : (b : Bool) → fresh psw s (get_or a h 0) ≡ b → cond b (rest (set s (get_or a h 0) true)) None ≡ w
    unfolding seen_after
    first_seen b f =
        let x = get_or a h 0 in
        let m : n - i - 1 ≡ n - (i + 1) = omega arith in
        sym (ap (λ (l : List ℕ). seen_after psw l s) (ring_first a h (n - i) p (omega arith))
        ∙ ap (λ (k : ℕ). cond (fresh psw s x) (seen_after psw (ring a ((h + 1) % 64) k) (set s x true)) None) m
        ∙ ap (λ (b : Bool). cond b (rest (set s x true)) None) f)
        ∙ v

    pub ring_goes : (r : List Bool) → fresh psw s (get_or a h 0) ≡ true → r ≡ set s (get_or a h 0) true → seen_after psw (ring a ((h + 1) % 64) (n - (i + 1))) r ≡ w
    ring_goes r f e = ap rest e ∙ first_seen true f

    pub ring_fails : fresh psw s (get_or a h 0) ≡ false → None ≡ w
    ring_fails f = first_seen false f

  pub ring_ends : (a : List ℕ) (h n : ℕ) (s : List Bool) (w : Option (List Bool)) → n ≡ 0 → seen_after psw (ring a h n) s ≡ w → Some s ≡ w
  unfolding seen_after ring
  ring_ends a h n s w e i = sym (ap (λ (n : ℕ). seen_after psw (ring a h n) s) e) ∙ i

  -- ---- over the queues

  after_some : (a b : List ℕ) (s r : List Bool) → seen_after psw a s ≡ Some r → seen_after psw (a ++ b) s ≡ seen_after psw b r
  unfolding seen_after
  after_some [] b s r e = let f : s ≡ r = cc in ap (seen_after psw b) f
  after_some (x ∷ a) b s r e = go (fresh psw s x) (after_some a b (set s x true) r) e
    where
      go : (t : Bool) → (seen_after psw a (set s x true) ≡ Some r → seen_after psw (a ++ b) (set s x true) ≡ seen_after psw b r)
          → cond t (seen_after psw a (set s x true)) None ≡ Some r → cond t (seen_after psw (a ++ b) (set s x true)) None ≡ seen_after psw b r
      go true ih e = ih e
      go false ih e = cc

  after_none : (a b : List ℕ) (s : List Bool) → seen_after psw a s ≡ None → seen_after psw (a ++ b) s ≡ None
  unfolding seen_after
  after_none [] b s e = cc
  after_none (x ∷ a) b s e = go (fresh psw s x) (after_none a b (set s x true)) e
    where
      go : (t : Bool) → (seen_after psw a (set s x true) ≡ None → seen_after psw (a ++ b) (set s x true) ≡ None) → cond t (seen_after psw a (set s x true)) None ≡ None
          → cond t (seen_after psw (a ++ b) (set s x true)) None ≡ None
      go true ih e = ih e
      go false ih e = refl

  module _ (qs : List Queue) (k : ℕ) (s : List Bool) {w : Option (List Bool)} (h : k < length qs) (i : seen_after psw (live_pts (drop k qs)) s ≡ w) where
    pub queues_go : (r : List Bool) → seen_after psw (list_of (get_or qs k no_queue)) s ≡ Some r → seen_after psw (live_pts (drop (k + 1) qs)) r ≡ w
    queues_go r e =
        sym (ap (λ (l : List ℕ). seen_after psw l s) (live_next qs k h) ∙ after_some (list_of (get_or qs k no_queue)) (live_pts (drop (k + 1) qs)) s r e) ∙ i

    pub queues_fail : seen_after psw (list_of (get_or qs k no_queue)) s ≡ None → None ≡ w
    queues_fail e =
        sym (ap (λ (l : List ℕ). seen_after psw l s) (live_next qs k h) ∙ after_none (list_of (get_or qs k no_queue)) (live_pts (drop (k + 1) qs)) s e) ∙ i

  pub queues_end : (qs : List Queue) (k : ℕ) (s : List Bool) (w : Option (List Bool)) → length qs ≤ k → seen_after psw (live_pts (drop k qs)) s ≡ w → Some s ≡ w
  unfolding seen_after
  queues_end qs k s w h i = sym (ap (λ (l : List ℕ). seen_after psw l s) (live_none qs k h)) ∙ i

  -- ---- what it says that they stay sound

  -- every PT of a list is fresh, and stands there once
  record Fresh (s : List Bool) (pts : List ℕ) : Type 0 where
    once : (p : ℕ) → occ p pts ≤ 1
    each : (p : ℕ) → occ p pts ≢ 0 → fresh psw s p ≡ true

  abbrev marked : List Bool → ℕ → List Bool
  marked s x = set s x true

  fresh_pt : (s : List Bool) (p : ℕ) → fresh psw s p ≡ true → pt_sound p ≡ true
  unfolding fresh
  fresh_pt s p e = and_left _ _ e

  fresh_new : (s : List Bool) (p : ℕ) → fresh psw s p ≡ true → not (get_or s p false) ≡ true
  unfolding fresh
  fresh_new s p e = and_left _ _ (and_right (pt_sound p) _ e)

  fresh_psw : (s : List Bool) (p : ℕ) → fresh psw s p ≡ true → psw_sound (get_or psw p 0) ≡ true
  unfolding fresh
  fresh_psw s p e = and_right (not (get_or s p false)) _ (and_right (pt_sound p) _ e)

  pub fresh_low : (s : List Bool) (p : ℕ) → fresh psw s p ≡ true → p < 64
  unfolding pt_sound
  fresh_low s p e = ltb-true p 64 (fresh_pt s p e)

  -- a PT that is marked is not fresh any more, and any other is as it was
  marked_same : (s : List Bool) (p : ℕ) → length s ≡ 64 → p < 64 → fresh psw (marked s p) p ≡ true → ⊥
  marked_same s p l h e =
      let m : not (get_or (set s p true) p false) ≡ true = fresh_new (marked s p) p e in
      let g : get_or (set s p true) p false ≡ true = get_or-set_same s p true false (omega arith) in
      false≢true (rw g at m)

  marked_other : (s : List Bool) (x p : ℕ) → p ≢ x → fresh psw (marked s x) p ≡ fresh psw s p
  unfolding fresh
  marked_other s x p n =
      ap (λ (b : Bool). pt_sound p && (not b && psw_sound (get_or psw p 0))) (get_or-set_other s x p true false n)

  -- one PT before others
  fresh_cons : (s : List Bool) (x : ℕ) (pts : List ℕ) → length s ≡ 64 → fresh psw s x ≡ true → Fresh (marked s x) pts → Fresh s (x ∷ pts)
  fresh_cons s x pts l f r = record { once = one; each = all }
    where
      gone : occ x pts ≡ 0
      gone = zero_of (occ x pts) (λ n. marked_same s x l (fresh_low s x f) (r.each x n))

      one : (p : ℕ) → occ p (x ∷ pts) ≤ 1
      one p = go (eqb p x) (eq? p x)
        where
          go : (b : Bool) → Eq? p x b → occ p (x ∷ pts) ≤ 1
          go true (same e) = rw e (omega (arith, gone, occ_cons x x pts, hit_same x))
          go false (differ n) = omega (arith, r.once p, occ_cons p x pts, hit_differ p x n)

      all : (p : ℕ) → occ p (x ∷ pts) ≢ 0 → fresh psw s p ≡ true
      all p h = go (eqb p x) (eq? p x)
        where
          go : (b : Bool) → Eq? p x b → fresh psw s p ≡ true
          go true (same e) = rw e f
          go false (differ n) = sym (marked_other s x p n) ∙ r.each p (λ z. h (omega (arith, occ_cons p x pts, hit_differ p x n)))

  fresh_tail : (s : List Bool) (x : ℕ) (pts : List ℕ) → Fresh s (x ∷ pts) → Fresh (marked s x) pts
  fresh_tail s x pts r = record { once = λ p. omega (arith, r.once p, occ_cons p x pts); each = all }
    where
      all : (p : ℕ) → occ p pts ≢ 0 → fresh psw (marked s x) p ≡ true
      all p h = go (eqb p x) (eq? p x)
        where
          go : (b : Bool) → Eq? p x b → fresh psw (marked s x) p ≡ true
          go true (same e) = absurd (h (rw e (omega (arith, r.once x, occ_cons x x pts, hit_same x))))
          go false (differ n) = marked_other s x p n ∙ r.each p (λ z. h (omega (arith, occ_cons p x pts)))

  -- the code reads at the PT modulo 64, where every place is
  fresh_at : (s : List Bool) (p : ℕ) → pt_sound p && (not (get_or s (p % 64) false) && psw_sound (get_or psw (p % 64) 0)) ≡ fresh psw s p
  unfolding fresh pt_sound
  fresh_at s p = go (leb 64 p) (le? 64 p)
    where
      go : (b : Bool) → Le? 64 p b
          → ltb p 64 && (not (get_or s (p % 64) false) && psw_sound (get_or psw (p % 64) 0)) ≡ ltb p 64 && (not (get_or s p false) && psw_sound (get_or psw p 0))
      go true (below k) = rw (le-ltb p 64 k)
      go false (above k) = let e : p % 64 ≡ p = omega arith in rw e

  module _ (s : List Bool) (p : ℕ) {b : Bool} (f : b ≡ pt_sound p && (not (get_or s (p % 64) false) && psw_sound (get_or psw (p % 64) 0))) where
    pub fresh_read : {t : Bool} → b ≡ t → fresh psw s p ≡ t
    fresh_read e = sym (fresh_at s p) ∙ sym f ∙ e

    pub marks : {r : List Bool} → b ≡ true → r ≡ set s (p % 64) true → r ≡ set s p true
    marks t e =
        let h : p < 64 = fresh_low s p (fresh_read t) in
        let i : p % 64 ≡ p = omega arith in
        e ∙ ap (λ (k : ℕ). set s k true) i

  seen_parts : (pts : List ℕ) (s : List Bool) → length s ≡ 64 → is_some (seen_after psw pts s) ≡ true → Fresh s pts
  unfolding seen_after
  seen_parts [] s l e = record { once = λ p. omega (arith, occ_nil p); each = λ p n. absurd (n (occ_nil p)) }
  seen_parts (x ∷ pts) s l e = go (fresh psw s x) refl (seen_parts pts) e
    where
      go : (b : Bool) → fresh psw s x ≡ b → ((r : List Bool) → length r ≡ 64 → is_some (seen_after psw pts r) ≡ true → Fresh r pts)
          → is_some (cond b (seen_after psw pts (marked s x)) None) ≡ true → Fresh s (x ∷ pts)
      go true f ih e = fresh_cons s x pts l f (ih (marked s x) (length-set s x true ∙ l) e)
      go false f ih e = absurd (false≢true e)

  seen_whole : (pts : List ℕ) (s : List Bool) → Fresh s pts → is_some (seen_after psw pts s) ≡ true
  unfolding seen_after
  seen_whole [] s r = refl
  seen_whole (x ∷ pts) s r =
      let f : fresh psw s x ≡ true = r.each x (λ z. omega (arith, occ_cons x x pts, hit_same x)) in
      ap (λ (b : Bool). is_some (cond b (seen_after psw pts (marked s x)) None)) f ∙ seen_whole pts (marked s x) (fresh_tail s x pts r)

  -- ---- from no PT on

  abbrev none : List Bool
  none = replicate 64 false

  fresh_of : (p : ℕ) → pt_sound p ≡ true → psw_sound (get_or psw p 0) ≡ true → fresh psw none p ≡ true
  unfolding fresh pt_sound
  fresh_of p e f =
      let g : get_or (replicate 64 false) p false ≡ false = get_or-replicate 64 p false false (ltb-true p 64 e) in
      also e (also (ap not g) f)

  pub seen_sound : (pts : List ℕ) → is_some (seen_after psw pts none) ≡ processes_sound psw pts
  unfolding processes_sound psws_of
  seen_sound pts = together _ _ into from
    where
      into : is_some (seen_after psw pts none) ≡ true → processes_sound psw pts ≡ true
      into e =
          let r = seen_parts pts none refl e in
          also (distinct_of pts r.once)
          (also (every_of pt_sound pts (λ p n. fresh_pt none p (r.each p n)))
          (every_map psw_sound (λ p. get_or psw p 0) pts ∙ every_of (λ p. psw_sound (get_or psw p 0)) pts (λ p n. fresh_psw none p (r.each p n))))

      from : processes_sound psw pts ≡ true → is_some (seen_after psw pts none) ≡ true
      from e =
          let d = and_left (distinct pts) _ e in
          let s = and_left (every pt_sound pts) _ (and_right (distinct pts) _ e) in
          let w = sym (every_map psw_sound (λ p. get_or psw p 0) pts) ∙ and_right (every pt_sound pts) _ (and_right (distinct pts) _ e) in
          seen_whole pts none
          (record {
            once = once_of pts d;
            each = λ p n. fresh_of p (every_at pt_sound pts s p n) (every_at (λ q. psw_sound (get_or psw q 0)) pts w p n);
          })
