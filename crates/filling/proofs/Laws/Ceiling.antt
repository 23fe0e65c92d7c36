-- No choice of at most k jobs sums to more than the k largest needs.
use Rattle.std.specs.Prelude.{ℕ, zero, suc, ◌+◌, ◌/◌, ◌%◌, ◌≤◌, ◌≡◌, refl, Bool, true, false, cond, ◌&&◌, List, [], ◌∷◌, leb, eqb, length, take}
use Rattle.std.proofs.Common.{arith, sym, true≢false, leb-true, leb-false}
use Rattle.window.specs.Limits.{most_registers}
use Rattle.filling.specs.Filling.{most_chosen, chosen, total, sum_of, keeps_rules, inserted, descending, ceiling_of}

-- every element is at most b
abbrev pub Below : ℕ → List ℕ → Type 0
Below b [] = Unit {0}
Below b (n ∷ ns) = (n ≤ b) × Below b ns

abbrev pub Falls : List ℕ → Type 0
Falls [] = Unit {0}
Falls (n ∷ ns) = Below n ns × Falls ns

below_more : (b c : ℕ) (l : List ℕ) → b ≤ c → Below b l → Below c l
below_more b c [] h e = tt
below_more b c (n ∷ ns) h e = (let p = e.0 in omega (arith, p, h), below_more b c ns h e.1)

below_inserted : (b n : ℕ) (l : List ℕ) → n ≤ b → Below b l → Below b (inserted n l)
unfolding inserted
below_inserted b n [] h e = (h, tt)
below_inserted b n (m ∷ ms) h e = go (leb m n) (below_inserted b n ms h e.1)
  where
    go : (c : Bool) → Below b (inserted n ms) → Below b (cond c (n ∷ m ∷ ms) (m ∷ inserted n ms))
    go true ih = (h, e)
    go false ih = (e.0, ih)

falls_inserted : (n : ℕ) (l : List ℕ) → Falls l → Falls (inserted n l)
unfolding inserted
falls_inserted n [] e = (tt, tt)
falls_inserted n (m ∷ ms) e = go (leb m n) refl (falls_inserted n ms e.1)
  where
    go : (c : Bool) → leb m n ≡ c → Falls (inserted n ms) → Falls (cond c (n ∷ m ∷ ms) (m ∷ inserted n ms))
    go true p ih = let h = leb-true m n p in ((h, below_more m n ms h e.0), e)
    go false p ih = let h = leb-false m n p in (below_inserted m n ms (omega (arith, h)) e.0, ih)

pub falls : (l : List ℕ) → Falls (descending l)
unfolding descending
falls [] = tt
falls (n ∷ ns) = falls_inserted n (descending ns) (falls ns)

-- one element more of a list of elements at most b
one_more : (b k : ℕ) (l : List ℕ) → Below b l → total (take (suc k) l) ≤ b + total (take k l)
unfolding total
one_more b k [] e = omega arith
one_more b zero (n ∷ ns) e = let p = e.0 in omega (arith, p)
one_more b (suc k) (n ∷ ns) e = let p = one_more b k ns e.1 in omega (arith, p)

-- the k largest, with an element more and without it
taken : (k n : ℕ) (l : List ℕ) → n + total (take k l) ≤ total (take (suc k) (inserted n l))
unfolding total inserted
taken zero n [] = omega arith
taken (suc k) n [] = omega arith
taken k n (m ∷ ms) = go k (leb m n) refl (λ j. taken j n ms)
  where
    go : (k : ℕ) (c : Bool) → leb m n ≡ c → ((j : ℕ) → n + total (take j ms) ≤ total (take (suc j) (inserted n ms)))
        → n + total (take k (m ∷ ms)) ≤ total (take (suc k) (cond c (n ∷ m ∷ ms) (m ∷ inserted n ms)))
    go k true p ih = omega arith
    go zero false p ih = let h = leb-false m n p in omega (arith, h)
    go (suc k) false p ih = let h = ih k in omega (arith, h)

left : (k n : ℕ) (l : List ℕ) → Falls l → total (take k l) ≤ total (take k (inserted n l))
unfolding total inserted
left zero n l e = omega arith
left (suc k) n [] e = omega arith
left (suc k) n (m ∷ ms) e = go (leb m n) refl (left k n ms e.1)
  where
    go : (c : Bool) → leb m n ≡ c → total (take k ms) ≤ total (take k (inserted n ms))
        → total (take (suc k) (m ∷ ms)) ≤ total (take (suc k) (cond c (n ∷ m ∷ ms) (m ∷ inserted n ms)))
    go true p ih = let h = one_more m k (m ∷ ms) (omega arith, e.0) in let g = leb-true m n p in omega (arith, h, g)
    go false p ih = omega (arith, ih)

pub at_most_largest : (k x : ℕ) (l : List ℕ) → length (chosen x l) ≤ k → total (chosen x l) ≤ total (take k (descending l))
unfolding chosen total descending
at_most_largest k x [] h = omega arith
at_most_largest k x (n ∷ ns) h = go k (eqb (x % 2) 1) h (λ j. at_most_largest j (x / 2) ns)
  where
    go : (k : ℕ) (c : Bool) → length (cond c (n ∷ chosen (x / 2) ns) (chosen (x / 2) ns)) ≤ k
        → ((j : ℕ) → length (chosen (x / 2) ns) ≤ j → total (chosen (x / 2) ns) ≤ total (take j (descending ns)))
        → total (cond c (n ∷ chosen (x / 2) ns) (chosen (x / 2) ns)) ≤ total (take k (inserted n (descending ns)))
    go zero true h ih = absurd (omega (arith, h))
    go (suc k) true h ih =
        let s = ih k (omega (arith, h)) in
        let t = taken k n (descending ns) in
        omega (arith, s, t)
    go k false h ih =
        let s = ih k h in
        let t = left k n (descending ns) (falls ns) in
        omega (arith, s, t)

both : (a b m n : ℕ) → leb a m && leb b n ≡ true → (a ≤ m) × (b ≤ n)
both a b m n e = go (leb a m) (leb b n) refl refl e
  where
    go : (p q : Bool) → leb a m ≡ p → leb b n ≡ q → p && q ≡ true → (a ≤ m) × (b ≤ n)
    go true true h k e = (leb-true a m h, leb-true b n k)
    go true false h k e = absurd (true≢false (sym e))
    go false q h k e = absurd (true≢false (sym e))

pub under_ceiling : (needs : List ℕ) (x : ℕ) → keeps_rules needs x ≡ true → sum_of needs x ≤ ceiling_of needs
unfolding keeps_rules sum_of ceiling_of
under_ceiling needs x e =
    let p = both (length (chosen x needs)) (total (chosen x needs)) most_chosen most_registers e in
    let t = at_most_largest most_chosen x needs p.0 in
    omega (arith, p, t)
