-- The word of free PTs: its lowest one is the lowest free PT; a PT is taken, a PT is given back.
use Rattle.std.specs.Prelude.{◌≡◌, refl, ◌≢◌, Bool, true, false, cond, List, [], ◌∷◌, ◌++◌, ℕ, zero, suc, ◌+◌, ◌-◌, ◌*◌, ◌/◌, ◌%◌, ◌^◌, ◌≤◌, ◌<◌, eqb, leb}
use Rattle.std.proofs.Common.{sym, ap, ◌∙◌, subst, add-zero, div-one, pow-suc, arith, pow_pos}
use Rattle.std.proofs.Math.Pow.{high, ones_split, ones_lt}
use Rattle.std.specs.Int.Count.{under, count_trailing_zeros}
use Rattle.word.proofs.Laws.Bools.{Eq?, same, differ, eq?, Le?, below, above, le?}
use Rattle.step.specs.Queues.{hit, occ, free_from}
use Rattle.step.proofs.Laws.Occurrences.{hit_same, hit_differ, occ_nil, occ_cons, occ_append}
use Rattle.step_queue.specs.Laws.Digits.{half, digit_le}
use Rattle.step_queue.specs.Code.Mask.{without, free_after}
use Rattle.run_rings.specs.Code.Mask.{all_free, none, Frees}

lowest_one : (n i z : ℕ) (l : List ℕ) → ((j : ℕ) → j < n → z / 2 ^ j % 2 ≡ none (occ (i + j) l)) → i + count_trailing_zeros n z ≡ free_from n i l
unfolding none count_trailing_zeros free_from
lowest_one zero i z l h = add-zero i
lowest_one (suc n) i z l h =
    go (occ i l)
    (let a : z ≡ z / 2 ^ 0 = omega (arith, div-one z) in ap (λ (x : ℕ). x % 2) a ∙ h 0 (omega arith) ∙ ap (λ (x : ℕ). none (occ x l)) (add-zero i))
    (lowest_one n (suc i) (z / 2) l (λ j p.
    let b : i + suc j ≡ suc i + j = omega arith in
    ap (λ (x : ℕ). x % 2) (sym (half z j)) ∙ h (suc j) (omega arith) ∙ ap (λ (x : ℕ). none (occ x l)) b))
  where
    go : (o : ℕ) → z % 2 ≡ none o → suc i + count_trailing_zeros n (z / 2) ≡ free_from n (suc i) l
        → i + under (z % 2) (count_trailing_zeros n (z / 2)) ≡ elim o [ zero ↦ i | suc k ↦ free_from n (suc i) l ]
    go zero q r = ap (λ (d : ℕ). i + under d (count_trailing_zeros n (z / 2))) q ∙ add-zero i
    go (suc k) q r = ap (λ (d : ℕ). i + under d (count_trailing_zeros n (z / 2))) q ∙ omega (arith, r)

-- the lowest one of the word is the lowest free PT
pub lowest_free_lem : (z : ℕ) (l : List ℕ) → Frees z l → count_trailing_zeros 64 z ≡ free_from 64 0 l
lowest_free_lem z l f =
    let e : 0 + count_trailing_zeros 64 z ≡ free_from 64 0 l = lowest_one 64 0 z l (λ j h. let i : j ≡ 0 + j = omega arith in f.digit j h ∙ ap (λ (x : ℕ). none (occ x l)) i) in
    omega arith

-- ---- one digit

-- that digit cleared
cleared_same : (p z : ℕ) → z / 2 ^ p % 2 ≢ 0 → (z - 2 ^ p) / 2 ^ p % 2 ≡ 0
cleared_same zero z h =
    let a : z / 2 ^ 0 ≡ z = omega (arith, div-one z) in
    let b : (z - 2 ^ 0) / 2 ^ 0 ≡ z - 1 = omega (arith, div-one (z - 1)) in
    let n : z % 2 ≢ 0 = λ e. h (ap (λ (x : ℕ). x % 2) a ∙ e) in
    ap (λ (x : ℕ). x % 2) b ∙ omega (arith, n)
cleared_same (suc p) z h =
    let n : z / 2 / 2 ^ p % 2 ≢ 0 = λ e. h (ap (λ (x : ℕ). x % 2) (half z p) ∙ e) in
    let a : (z - 2 ^ suc p) / 2 ≡ z / 2 - 2 ^ p = omega (arith, pow-suc 2 p, digit_le (suc p) z h) in
    ap (λ (x : ℕ). x % 2) (half (z - 2 ^ suc p) p ∙ ap (λ (x : ℕ). x / 2 ^ p) a) ∙ cleared_same p (z / 2) n

cleared_other : (p j z : ℕ) → p ≢ j → z / 2 ^ p % 2 ≢ 0 → (z - 2 ^ p) / 2 ^ j % 2 ≡ z / 2 ^ j % 2
cleared_other zero zero z d h = absurd (d refl)
cleared_other zero (suc j) z d h =
    let m : z / 2 ^ 0 ≡ z = omega (arith, div-one z) in
    let n : z % 2 ≢ 0 = λ e. h (ap (λ (x : ℕ). x % 2) m ∙ e) in
    let a : (z - 2 ^ 0) / 2 ≡ z / 2 = omega (arith, n) in
    ap (λ (x : ℕ). x % 2) (half (z - 2 ^ 0) j ∙ ap (λ (x : ℕ). x / 2 ^ j) a ∙ sym (half z j))
cleared_other (suc p) zero z d h =
    let a : z / 2 ^ 0 ≡ z = omega (arith, div-one z) in
    let b : (z - 2 ^ suc p) / 2 ^ 0 ≡ z - 2 ^ suc p = omega (arith, div-one (z - 2 ^ suc p)) in
    omega (arith, pow-suc 2 p, digit_le (suc p) z h, a, b)
cleared_other (suc p) (suc j) z d h =
    let n : z / 2 / 2 ^ p % 2 ≢ 0 = λ e. h (ap (λ (x : ℕ). x % 2) (half z p) ∙ e) in
    let a : (z - 2 ^ suc p) / 2 ≡ z / 2 - 2 ^ p = omega (arith, pow-suc 2 p, digit_le (suc p) z h) in
    ap (λ (x : ℕ). x % 2) (half (z - 2 ^ suc p) j ∙ ap (λ (x : ℕ). x / 2 ^ j) a)
    ∙ cleared_other p j (z / 2) (λ e. d (ap suc e)) n ∙ ap (λ (x : ℕ). x % 2) (sym (half z j))

-- a digit that is zero made one
raised_same : (p z : ℕ) → z / 2 ^ p % 2 ≡ 0 → (z + 2 ^ p) / 2 ^ p % 2 ≡ 1
raised_same zero z h =
    let a : z / 2 ^ 0 ≡ z = omega (arith, div-one z) in
    let b : (z + 2 ^ 0) / 2 ^ 0 ≡ z + 1 = omega (arith, div-one (z + 1)) in
    let n : z % 2 ≡ 0 = ap (λ (x : ℕ). x % 2) (sym a) ∙ h in
    ap (λ (x : ℕ). x % 2) b ∙ omega (arith, n)
raised_same (suc p) z h =
    let n : z / 2 / 2 ^ p % 2 ≡ 0 = ap (λ (x : ℕ). x % 2) (sym (half z p)) ∙ h in
    let a : (z + 2 ^ suc p) / 2 ≡ z / 2 + 2 ^ p = omega (arith, pow-suc 2 p) in
    ap (λ (x : ℕ). x % 2) (half (z + 2 ^ suc p) p ∙ ap (λ (x : ℕ). x / 2 ^ p) a) ∙ raised_same p (z / 2) n

raised_other : (p j z : ℕ) → p ≢ j → z / 2 ^ p % 2 ≡ 0 → (z + 2 ^ p) / 2 ^ j % 2 ≡ z / 2 ^ j % 2
raised_other p j z d h =
    let a : z + 2 ^ p - 2 ^ p ≡ z = omega arith in
    sym (cleared_other p j (z + 2 ^ p) d (λ e. omega (arith, e, raised_same p z h))) ∙ ap (λ (x : ℕ). x / 2 ^ j % 2) a

raised_lt : (n p z : ℕ) → p < n → z < 2 ^ n → z / 2 ^ p % 2 ≡ 0 → z + 2 ^ p < 2 ^ n
raised_lt zero p z l k h = absurd (omega arith)
raised_lt (suc n) zero z l k h =
    let a : z / 2 ^ 0 ≡ z = omega (arith, div-one z) in
    let m : z % 2 ≡ 0 = ap (λ (x : ℕ). x % 2) (sym a) ∙ h in
    omega (arith, pow-suc 2 n, m, k)
raised_lt (suc n) (suc p) z l k h =
    let m : z / 2 / 2 ^ p % 2 ≡ 0 = ap (λ (x : ℕ). x % 2) (sym (half z p)) ∙ h in
    let i : z / 2 + 2 ^ p < 2 ^ n = raised_lt n p (z / 2) (omega arith) (omega (arith, pow-suc 2 n, k)) m in
    omega (arith, pow-suc 2 n, pow-suc 2 p, i)

-- ---- the word

none_one : (k : ℕ) → k ≡ 0 → none k ≡ 1
unfolding none
none_one k e = ap none e

none_zero : (k : ℕ) → k ≢ 0 → none k ≡ 0
unfolding none
none_zero zero n = absurd (n refl)
none_zero (suc k) n = refl

-- the digit of a free PT, and of one that is not free
free_digit : (z p : ℕ) (l : List ℕ) → Frees z l → p < 64 → occ p l ≡ 0 → z / 2 ^ p % 2 ≡ 1
free_digit z p l f h e = f.digit p h ∙ none_one (occ p l) e

pub free_le : (z p : ℕ) (l : List ℕ) → Frees z l → p < 64 → occ p l ≡ 0 → 2 ^ p ≤ z
free_le z p l f h e = digit_le p z (λ q. omega (arith, q, free_digit z p l f h e))

taken_digit : (z p : ℕ) (l : List ℕ) → Frees z l → p < 64 → occ p l ≢ 0 → z / 2 ^ p % 2 ≡ 0
taken_digit z p l f h e = f.digit p h ∙ none_zero (occ p l) e

-- the word says the same of lists with the same numbers
pub frees_same : (z : ℕ) (l m : List ℕ) → Frees z l → ((p : ℕ) → occ p m ≡ occ p l) → Frees z m
frees_same z l m f h = record { small = f.small; digit = λ p k. f.digit p k ∙ ap none (sym (h p)) }

-- m is l with the number p, which does not stand in l, once more
pub record Adds (p : ℕ) (l m : List ℕ) : Type 0 where
  pub absent : occ p l ≡ 0
  pub more : (j : ℕ) → occ j m ≡ occ j l + hit j p

-- a free PT is taken
pub frees_taken : (z p : ℕ) (l m : List ℕ) → Frees z l → p < 64 → Adds p l m → Frees (z - 2 ^ p) m
frees_taken z p l m f h a = record { small = omega (arith, f.small); digit = λ j k. go j k (eqb j p) (eq? j p) }
  where
    one : z / 2 ^ p % 2 ≢ 0
    one q = omega (arith, q, free_digit z p l f h a.absent)

    go : (j : ℕ) → j < 64 → (b : Bool) → Eq? j p b → (z - 2 ^ p) / 2 ^ j % 2 ≡ none (occ j m)
    go j k true (same e) =
        let o : hit j p ≡ 1 = rw (← e) (hit_same j) in
        let q : (z - 2 ^ p) / 2 ^ j % 2 ≡ 0 = ap (λ (x : ℕ). (z - 2 ^ p) / 2 ^ x % 2) e ∙ cleared_same p z one in
        q ∙ sym (none_zero (occ j m) (λ r. omega (arith, r, o, a.more j)))
    go j k false (differ e) =
        let o : occ j l ≡ occ j m = omega (arith, hit_differ j p e, a.more j) in
        cleared_other p j z (λ s. e (sym s)) one ∙ f.digit j k ∙ ap none o

-- the digit of a PT that is given back is zero, and the word stays a word
given_digit : (z p : ℕ) (l m : List ℕ) → Frees z m → p < 64 → Adds p l m → z / 2 ^ p % 2 ≡ 0
given_digit z p l m f h a = taken_digit z p m f h (λ r. omega (arith, r, a.more p, hit_same p))

pub given_lt : (z p : ℕ) (l m : List ℕ) → Frees z m → p < 64 → Adds p l m → z + 2 ^ p < 2 ^ 64
given_lt z p l m f h a = raised_lt 64 p z h f.small (given_digit z p l m f h a)

pub frees_given : (z p : ℕ) (l m : List ℕ) → Frees z m → p < 64 → Adds p l m → Frees (z + 2 ^ p) l
frees_given z p l m f h a = record { small = given_lt z p l m f h a; digit = λ j k. go j k (eqb j p) (eq? j p) }
  where
    zero_digit : z / 2 ^ p % 2 ≡ 0
    zero_digit = given_digit z p l m f h a

    go : (j : ℕ) → j < 64 → (b : Bool) → Eq? j p b → (z + 2 ^ p) / 2 ^ j % 2 ≡ none (occ j l)
    go j k true (same e) =
        let q : (z + 2 ^ p) / 2 ^ j % 2 ≡ 1 = ap (λ (x : ℕ). (z + 2 ^ p) / 2 ^ x % 2) e ∙ raised_same p z zero_digit in
        let o : occ j l ≡ 0 = ap (λ (x : ℕ). occ x l) e ∙ a.absent in
        q ∙ sym (none_one (occ j l) o)
    go j k false (differ e) =
        let o : occ j m ≡ occ j l = omega (arith, hit_differ j p e, a.more j) in
        raised_other p j z (λ s. e (sym s)) zero_digit ∙ f.digit j k ∙ ap none o

-- where no PT is live all are free
all_free_lem : (j : ℕ) → j < 64 → all_free / 2 ^ j % 2 ≡ 1
all_free_lem j h =
    let s : all_free ≡ (2 ^ suc (63 - j) - 1) * 2 ^ j + (2 ^ j - 1) = ap (λ (k : ℕ). 2 ^ k - 1) whole ∙ ones_split (suc (63 - j)) j in
    let t : all_free / 2 ^ j ≡ 2 ^ suc (63 - j) - 1 = ap (λ (x : ℕ). x / 2 ^ j) s ∙ high (2 ^ suc (63 - j) - 1) j (ones_lt j) in
    ap (λ (x : ℕ). x % 2) t ∙ omega (arith, pow-suc 2 (63 - j), pow_pos (63 - j))
  where
    whole : 64 ≡ suc (63 - j) + j
    whole = omega arith

frees_none : Frees all_free []
unfolding none occ
frees_none = record { small = omega arith; digit = λ p h. all_free_lem p h }

-- ---- the word made from a list

present : (z p : ℕ) (l : List ℕ) → Frees z l → p < 64 → z / 2 ^ p % 2 ≢ 0 → occ p l ≡ 0
present z p l f h n = go (occ p l) refl
  where
    go : (o : ℕ) → occ p l ≡ o → o ≡ 0
    go zero e = refl
    go (suc o) e = absurd (n (taken_digit z p l f h (λ q. omega (arith, q, e))))

without_frees : (z p : ℕ) (l : List ℕ) → Frees z l → Frees (without z p) (p ∷ l)
unfolding without
without_frees z p l f = go (leb 64 p) (eqb (z / 2 ^ p % 2) 0) (le? 64 p) (eq? (z / 2 ^ p % 2) 0)
  where
    other : (j : ℕ) → j < 64 → j ≢ p → z / 2 ^ j % 2 ≡ none (occ j (p ∷ l))
    other j k n = let o : occ j l ≡ occ j (p ∷ l) = omega (arith, occ_cons j p l, hit_differ j p n) in f.digit j k ∙ ap none o

    at : (j : ℕ) → j < 64 → z / 2 ^ p % 2 ≡ 0 → (b : Bool) → Eq? j p b → z / 2 ^ j % 2 ≡ none (occ j (p ∷ l))
    at j k q true (same e) =
        let o : hit j p ≡ 1 = rw (← e) (hit_same j) in
        ap (λ (x : ℕ). z / 2 ^ x % 2) e ∙ q ∙ sym (none_zero (occ j (p ∷ l)) (λ r. omega (arith, r, o, occ_cons j p l)))
    at j k q false (differ e) = other j k e

    go : (b c : Bool) → Le? 64 p b → Eq? (z / 2 ^ p % 2) 0 c → Frees (cond b z (cond c z (z - 2 ^ p))) (p ∷ l)
    go true c (below h) q = record { small = f.small; digit = λ j k. other j k (λ e. omega (arith, e, h, k)) }
    go false true (above h) (same q) = record { small = f.small; digit = λ j k. at j k q (eqb j p) (eq? j p) }
    go false false (above h) (differ q) =
        frees_taken z p l (p ∷ l) f h (record { absent = present z p l f h q; more = λ j. omega (arith, occ_cons j p l) })

after_frees : (l m : List ℕ) (z : ℕ) → Frees z m → Frees (free_after l z) (l ++ m)
unfolding free_after
after_frees [] m z f = f
after_frees (p ∷ ps) m z f =
    frees_same (free_after ps (without z p)) (ps ++ (p ∷ m)) (p ∷ ps ++ m) (after_frees ps (p ∷ m) (without z p) (without_frees z p m f))
    (λ j. omega (arith, occ_append j ps (p ∷ m), occ_append j ps m, occ_cons j p m, occ_cons j p (ps ++ m)))

-- all PTs without those of a list
pub frees_after : (l : List ℕ) → Frees (free_after l all_free) l
frees_after l =
    frees_same (free_after l all_free) (l ++ []) l (after_frees l [] all_free frees_none) (λ j. omega (arith, occ_append j l [], occ_nil j))

pub frees_made : (z : ℕ) (l : List ℕ) → z ≡ free_after l all_free → Frees z l
frees_made z l e = subst (λ (z : ℕ). Frees z l) (sym e) (frees_after l)

-- ---- no other word says it

digits_same : (n z y : ℕ) → z < 2 ^ n → y < 2 ^ n → ((j : ℕ) → j < n → z / 2 ^ j % 2 ≡ y / 2 ^ j % 2) → z ≡ y
digits_same zero z y h k d = omega (arith, h, k)
digits_same (suc n) z y h k d =
    let a : z / 2 ^ 0 ≡ z = omega (arith, div-one z) in
    let b : y / 2 ^ 0 ≡ y = omega (arith, div-one y) in
    let e : z % 2 ≡ y % 2 = ap (λ (x : ℕ). x % 2) (sym a) ∙ d 0 (omega arith) ∙ ap (λ (x : ℕ). x % 2) b in
    let f : z / 2 ≡ y / 2 =
    digits_same n (z / 2) (y / 2) (omega (arith, pow-suc 2 n, h)) (omega (arith, pow-suc 2 n, k))
    (λ j l. ap (λ (x : ℕ). x % 2) (sym (half z j)) ∙ d (suc j) (omega (arith, l)) ∙ ap (λ (x : ℕ). x % 2) (half y j)) in
    omega (arith, e, f)

pub frees_only : (z : ℕ) (l : List ℕ) → Frees z l → free_after l all_free ≡ z
frees_only z l f =
    digits_same 64 (free_after l all_free) z (frees_after l).small f.small (λ j h. (frees_after l).digit j h ∙ sym (f.digit j h))
