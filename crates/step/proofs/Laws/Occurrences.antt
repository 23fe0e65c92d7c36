-- How often a number stands in a list; the lowest number that is free; the PSWs that a list of PTs reads.
use Rattle.std.specs.Prelude.{◌≡◌, refl, ◌≢◌, Bool, true, false, cond, List, [], ◌∷◌, ◌++◌, ℕ, zero, suc, ◌+◌, ◌≤◌, ◌<◌, length, get_or, set, eqb, leb}
use Rattle.std.proofs.Common.{sym, ap, ap₂, subst, arith, get_or-set_same, get_or-set_other}
use Rattle.word.proofs.Laws.Bools.{Eq?, same, differ, eq?, Le?, below, above, le?}
use Rattle.step.specs.Queues.{hit, occ, free_from}
use Rattle.step.specs.State.{psws_of}

pub occ_nil : (p : ℕ) → occ p [] ≡ 0
unfolding occ
occ_nil p = refl

pub occ_cons : (p x : ℕ) (xs : List ℕ) → occ p (x ∷ xs) ≡ hit p x + occ p xs
unfolding occ
occ_cons p x xs = refl

pub occ_append : (p : ℕ) (xs ys : List ℕ) → occ p (xs ++ ys) ≡ occ p xs + occ p ys
unfolding occ
occ_append p [] ys = omega arith
occ_append p (x ∷ xs) ys = omega (arith, occ_append p xs ys)

pub hit_same : (p : ℕ) → hit p p ≡ 1
unfolding hit
hit_same p = go (eqb p p) (eq? p p)
  where
    go : (b : Bool) → Eq? p p b → ◌≡◌ {A = ℕ} (cond b 1 0) 1
    go true (same e) = refl
    go false (differ h) = absurd (h refl)

pub hit_differ : (p x : ℕ) → p ≢ x → hit p x ≡ 0
unfolding hit
hit_differ p x n = go (eqb p x) (eq? p x)
  where
    go : (b : Bool) → Eq? p x b → ◌≡◌ {A = ℕ} (cond b 1 0) 0
    go true (same e) = absurd (n e)
    go false (differ h) = refl

-- ---- the lowest of n numbers from i up that is free

sum : ℕ → ℕ → List ℕ → ℕ
sum zero i l = 0
sum (suc n) i l = occ i l + sum n (suc i) l

ones : ℕ → ℕ → ℕ → ℕ
ones zero i x = 0
ones (suc n) i x = hit i x + ones n (suc i) x

ones_past : (n i x : ℕ) → x < i → ones n i x ≡ 0
unfolding ones
ones_past zero i x h = refl
ones_past (suc n) i x h = omega (arith, hit_differ i x (λ e. omega arith), ones_past n (suc i) x (omega arith))

ones_le : (n i x : ℕ) → ones n i x ≤ 1
unfolding ones
ones_le zero i x = omega arith
ones_le (suc n) i x = go (eqb i x) (eq? i x) (ones_le n (suc i) x)
  where
    go : (b : Bool) → Eq? i x b → ones n (suc i) x ≤ 1 → hit i x + ones n (suc i) x ≤ 1
    go true (same e) ih = let o : hit i x ≡ 1 = rw (← e) (hit_same i) in omega (arith, ones_past n (suc i) x (omega arith))
    go false (differ h) ih = omega (arith, hit_differ i x h)

sum_nil : (n i : ℕ) → sum n i [] ≡ 0
unfolding sum occ
sum_nil zero i = refl
sum_nil (suc n) i = omega (arith, sum_nil n (suc i))

sum_cons : (n i x : ℕ) (l : List ℕ) → sum n i (x ∷ l) ≡ ones n i x + sum n i l
unfolding sum ones occ
sum_cons zero i x l = refl
sum_cons (suc n) i x l = omega (arith, sum_cons n (suc i) x l)

-- of any numbers, no more stand in l than l is long
sum_le : (n i : ℕ) (l : List ℕ) → sum n i l ≤ length l
sum_le n i [] = omega (arith, sum_nil n i)
sum_le n i (x ∷ l) = omega (arith, sum_cons n i x l, ones_le n i x, sum_le n i l)

ones_in_lem : (n i x : ℕ) → i ≤ x → x < i + n → ones n i x ≡ 1
unfolding ones
ones_in_lem zero i x h k = absurd (omega arith)
ones_in_lem (suc n) i x h k = go (eqb i x) (eq? i x) (ones_in_lem n (suc i) x)
  where
    go : (b : Bool) → Eq? i x b → (suc i ≤ x → x < suc i + n → ones n (suc i) x ≡ 1) → hit i x + ones n (suc i) x ≡ 1
    go true (same e) ih = let o : hit i x ≡ 1 = rw (← e) (hit_same i) in omega (arith, ones_past n (suc i) x (omega arith))
    go false (differ e) ih = omega (arith, hit_differ i x e, ih (omega arith) (omega arith))

sum_all : (n : ℕ) (l : List ℕ) → ((p : ℕ) → n ≤ p → occ p l ≡ 0) → sum n 0 l ≡ length l
sum_all n [] h = sum_nil n 0
sum_all n (x ∷ l) h = go (leb n x) (le? n x) (sum_all n l (λ p k. omega (arith, h p k, occ_cons p x l)))
  where
    go : (b : Bool) → Le? n x b → sum n 0 l ≡ length l → sum n 0 (x ∷ l) ≡ suc (length l)
    go true (below k) ih = absurd (omega (arith, h x k, occ_cons x x l, hit_same x))
    go false (above k) ih = omega (arith, sum_cons n 0 x l, ones_in_lem n 0 x (omega arith) (omega arith))

sum_once : (n i : ℕ) (l : List ℕ) → ((p : ℕ) → occ p l ≤ 1) → sum n i l ≤ n
unfolding sum
sum_once zero i l h = omega arith
sum_once (suc n) i l h = omega (arith, h i, sum_once n (suc i) l h)

-- numbers below n that each stand once are at most n
pub length_once : (n : ℕ) (l : List ℕ) → ((p : ℕ) → occ p l ≤ 1) → ((p : ℕ) → n ≤ p → occ p l ≡ 0) → length l ≤ n
length_once n l once small = omega (arith, sum_all n l small, sum_once n 0 l once)

pub record Free (p n : ℕ) (l : List ℕ) : Type 0 where
  pub none_such : occ p l ≡ 0
  pub small : p < n

free_from_lem : (n i : ℕ) (l : List ℕ) → sum n i l < n → Free (free_from n i l) (i + n) l
unfolding free_from sum
free_from_lem zero i l h = absurd (omega arith)
free_from_lem (suc n) i l h = go (occ i l) refl (λ k. free_from_lem n (suc i) l k)
  where
    go : (o : ℕ) → occ i l ≡ o → (sum n (suc i) l < n → Free (free_from n (suc i) l) (suc i + n) l)
        → Free (elim o [ zero ↦ i | suc k ↦ free_from n (suc i) l ]) (i + suc n) l
    go zero e ih = record { none_such = e; small = omega arith }
    go (suc k) e ih =
        let f : Free (free_from n (suc i) l) (suc i + n) l = ih (omega arith) in
        record { none_such = f.none_such; small = omega arith }

-- a list shorter than n leaves a number below n free
pub free_spec : (n : ℕ) (l : List ℕ) → length l < n → Free (free_from n 0 l) n l
free_spec n l h =
    let f : Free (free_from n 0 l) (0 + n) l = free_from_lem n 0 l (omega (arith, sum_le n 0 l)) in
    record { none_such = f.none_such; small = omega arith }

-- ---- lists as queues

-- head to tail
unfoldable pub rot : List ℕ → List ℕ
rot [] = []
rot (h ∷ q) = q ++ (h ∷ [])

-- without the head
unfoldable pub rest : List ℕ → List ℕ
rest [] = []
rest (h ∷ q) = q

-- the head alone
unfoldable pub first : List ℕ → List ℕ
first [] = []
first (h ∷ q) = h ∷ []

-- with v for the head
unfoldable pub head_to : ℕ → List ℕ → List ℕ
head_to v [] = []
head_to v (h ∷ q) = v ∷ q

pub occ_rot : (p : ℕ) (q : List ℕ) → occ p (rot q) ≡ occ p q
unfolding rot
occ_rot p [] = refl
occ_rot p (h ∷ q) = omega (arith, occ_append p q (h ∷ []), occ_cons p h q, occ_cons p h [], occ_nil p)

pub occ_snoc : (x f : ℕ) (q : List ℕ) → occ x (q ++ (f ∷ [])) ≡ occ x q + hit x f
occ_snoc x f q = omega (arith, occ_append x q (f ∷ []), occ_cons x f [], occ_nil x)

-- ---- the PSWs of a list of PTs

-- a store at a PT that is not in the list
pub psws_set : (psw q : List ℕ) (p v : ℕ) → occ p q ≡ 0 → psws_of (set psw p v) q ≡ psws_of psw q
unfolding psws_of occ
psws_set psw [] p v h = refl
psws_set psw (x ∷ q) p v h =
    ap₂ {A = ℕ} {B = List ℕ} {C = List ℕ} (λ y ys. y ∷ ys)
    (get_or-set_other psw p x v 0 (λ e. let o : hit p x ≡ 1 = rw e (hit_same p) in omega arith))
    (psws_set psw q p v (omega arith))

pub psws_append : (psw q r : List ℕ) → psws_of psw (q ++ r) ≡ psws_of psw q ++ psws_of psw r
unfolding psws_of
psws_append psw [] r = refl
psws_append psw (x ∷ q) r = ap (λ (ys : List ℕ). get_or psw x 0 ∷ ys) (psws_append psw q r)

pub psws_one : (psw : List ℕ) (p : ℕ) → psws_of psw (p ∷ []) ≡ get_or psw p 0 ∷ []
unfolding psws_of
psws_one psw p = refl

pub psws_rot : (psw q : List ℕ) → psws_of psw (rot q) ≡ rot (psws_of psw q)
unfolding rot psws_of
psws_rot psw [] = refl
psws_rot psw (h ∷ q) = psws_append psw q (h ∷ [])

pub psws_rest : (psw q : List ℕ) → psws_of psw (rest q) ≡ rest (psws_of psw q)
unfolding rest psws_of
psws_rest psw [] = refl
psws_rest psw (h ∷ q) = refl

-- PTs that each stand once, and in the table
pub record Distinct (psw q : List ℕ) : Type 0 where
  pub once : (p : ℕ) → occ p q ≤ 1
  pub inside : (p : ℕ) → length psw ≤ p → occ p q ≡ 0

-- h is the head of the list
pub record Heads (h : ℕ) (q : List ℕ) : Type 0 where
  pub tail : List ℕ
  pub is : q ≡ h ∷ tail

pub occ_rest : (p h : ℕ) (q : List ℕ) → Heads h q → occ p (rest q) + hit p h ≡ occ p q
unfolding rest
occ_rest p h q heads = subst (λ (l : List ℕ). occ p (rest l) + hit p h ≡ occ p l) (sym heads.is) (omega (arith, occ_cons p h heads.tail))

pub psws_first : (psw : List ℕ) (h : ℕ) (q : List ℕ) → Heads h q → (get_or psw h 0 ∷ []) ≡ first (psws_of psw q)
unfolding first psws_of
psws_first psw h q heads = subst (λ (l : List ℕ). (get_or psw h 0 ∷ []) ≡ first (psws_of psw l)) (sym heads.is) refl

in_table : (psw : List ℕ) (h : ℕ) (q : List ℕ) → Distinct psw (h ∷ q) → h < length psw
in_table psw h q d = go (leb (length psw) h) (le? (length psw) h)
  where
    go : (b : Bool) → Le? (length psw) h b → h < length psw
    go true (below k) = absurd (omega (arith, d.inside h k, occ_cons h h q, hit_same h))
    go false (above k) = k

head_set : (psw : List ℕ) (h : ℕ) (q : List ℕ) (v : ℕ) → Distinct psw (h ∷ q) → psws_of (set psw h v) (h ∷ q) ≡ head_to v (psws_of psw (h ∷ q))
unfolding psws_of head_to
head_set psw h q v d =
    ap₂ {A = ℕ} {B = List ℕ} {C = List ℕ} (λ y ys. y ∷ ys)
    (get_or-set_same psw h v 0 (in_table psw h q d))
    (psws_set psw q h v (omega (arith, d.once h, occ_cons h h q, hit_same h)))

-- a store at the head of the list
pub psws_head : (psw q : List ℕ) (h v : ℕ) → Heads h q → Distinct psw q → psws_of (set psw h v) q ≡ head_to v (psws_of psw q)
psws_head psw q h v heads d =
    subst (λ (l : List ℕ). psws_of (set psw h v) l ≡ head_to v (psws_of psw l)) (sym heads.is)
    (head_set psw h heads.tail v (subst (Distinct psw) heads.is d))

-- a store at the head of one list, seen from another
pub psws_other : (psw q r : List ℕ) (h v : ℕ) → Heads h q → ((p : ℕ) → occ p q + occ p r ≤ 1) → psws_of (set psw h v) r ≡ psws_of psw r
psws_other psw q r h v heads d =
    let o : occ h q ≡ occ h (h ∷ heads.tail) = ap (occ h) heads.is in
    psws_set psw r h v (omega (arith, d h, occ_cons h h heads.tail, hit_same h))
