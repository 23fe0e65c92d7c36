-- A test of every element of a list, and no element twice, by what stands in the list.
use Rattle.std.specs.Prelude.{◌≡◌, ◌≢◌, Bool, ◌&&◌, List, [], ◌∷◌, map, ℕ, zero, suc, ◌+◌, ◌≤◌, ◌<◌, length, get_or, set, drop, eqb}
use Rattle.std.proofs.Math.Path.{refl}
use Rattle.std.proofs.Common.{ap, add-one, arith, drop_of_length-le, eqb-true, eq-eqb}
use Rattle.std.proofs.Math.Bool.{true, false}
use Rattle.std.proofs.Math.Seq.{drop-cons}
use Rattle.word.proofs.Laws.Bools.{Eq?, same, differ, eq?, and_left, and_right}
use Rattle.word.proofs.Laws.Conjunctions.{also, both, and_assoc}
use Rattle.step.specs.Queues.{hit, occ}
use Rattle.step.specs.Soundness.{every, distinct}
use Rattle.step.proofs.Laws.Occurrences.{occ_nil, occ_cons, hit_same, hit_differ}

pub every_parts : (test : ℕ → Bool) (x : ℕ) (l : List ℕ) → every test (x ∷ l) ≡ true → (test x ≡ true) × (every test l ≡ true)
unfolding every
every_parts test x l e = both (λ k. k) (λ k. k) e

-- a test of the elements one by one, those from the ith on being left
module _ (test : ℕ → Bool) (l : List ℕ) (i : ℕ) where
  pub every_step : (good : Bool) → i < length l → ((good && test (get_or l i 0)) && every test (drop (i + 1) l)) ≡ (good && every test (drop i l))
  unfolding every
  every_step good h = rw (add-one i, drop-cons l i 0 h) (and_assoc good _ _)

  pub every_end : (good : Bool) → length l ≤ i → (good && every test (drop i l)) ≡ good
  unfolding every
  every_end good h = rw (drop_of_length-le l h) (go good)
    where
      go : (b : Bool) → b && true ≡ b
      go true = refl
      go false = refl

pub every_at : (test : ℕ → Bool) (l : List ℕ) → every test l ≡ true → (p : ℕ) → occ p l ≢ 0 → test p ≡ true
every_at test [] e p n = absurd (n (occ_nil p))
every_at test (x ∷ l) e p n = go (eqb p x) (eq? p x) (every_at test l (every_parts test x l e).1 p)
  where
    go : (b : Bool) → Eq? p x b → (occ p l ≢ 0 → test p ≡ true) → test p ≡ true
    go true (same q) ih = rw q (every_parts test x l e).0
    go false (differ q) ih = ih (λ z. n (omega (arith, occ_cons p x l, hit_differ p x q)))

pub every_of : (test : ℕ → Bool) (l : List ℕ) → ((p : ℕ) → occ p l ≢ 0 → test p ≡ true) → every test l ≡ true
unfolding every
every_of test [] h = refl
every_of test (x ∷ l) h =
    also (h x (λ z. omega (arith, occ_cons x x l, hit_same x))) (every_of test l (λ p n. h p (λ z. n (omega (arith, occ_cons p x l)))))

pub every_set : (test : ℕ → Bool) (l : List ℕ) (i v : ℕ) → test v ≡ true → every test l ≡ true → every test (set l i v) ≡ true
unfolding every
every_set test [] i v h e = refl
every_set test (x ∷ l) zero v h e = also h (every_parts test x l e).1
every_set test (x ∷ l) (suc i) v h e = also (every_parts test x l e).0 (every_set test l i v h (every_parts test x l e).1)

pub every_get_d : (test : ℕ → Bool) (l : List ℕ) (i : ℕ) → test 0 ≡ true → every test l ≡ true → test (get_or l i 0) ≡ true
every_get_d test [] i z e = z
every_get_d test (x ∷ l) zero z e = (every_parts test x l e).0
every_get_d test (x ∷ l) (suc i) z e = every_get_d test l i z (every_parts test x l e).1

pub every_map : (test : ℕ → Bool) (f : ℕ → ℕ) (l : List ℕ) → every test (map f l) ≡ every (λ x. test (f x)) l
unfolding every
every_map test f [] = refl
every_map test f (x ∷ l) = ap (λ (b : Bool). test (f x) && b) (every_map test f l)

pub once_of : (l : List ℕ) → distinct l ≡ true → (p : ℕ) → occ p l ≤ 1
unfolding distinct occ
once_of [] e p = omega arith
once_of (x ∷ l) e p = go (eqb p x) (eq? p x) (once_of l (and_right (eqb (occ x l) 0) (distinct l) e) p)
  where
    go : (b : Bool) → Eq? p x b → occ p l ≤ 1 → hit p x + occ p l ≤ 1
    go true (same q) ih =
        let z : occ p l ≡ 0 = rw q (eqb-true (occ x l) 0 (and_left (eqb (occ x l) 0) (distinct l) e)) in
        let o : hit p x ≡ 1 = rw q (hit_same x) in
        omega arith
    go false (differ q) ih = omega (arith, hit_differ p x q)

pub distinct_of : (l : List ℕ) → ((p : ℕ) → occ p l ≤ 1) → distinct l ≡ true
unfolding distinct occ
distinct_of [] h = refl
distinct_of (x ∷ l) h = also (eq-eqb (occ x l) 0 (omega (arith, h x, hit_same x))) (distinct_of l (λ p. omega (arith, h p)))
