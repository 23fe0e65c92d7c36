-- Bytes put over others: where they fit, and one after another.
use Rattle.std.specs.Prelude.{ℕ, suc, ◌+◌, ◌≤◌, ◌<◌, ◌≡◌, List, [], ◌∷◌, ◌++◌, length, take, drop, set}
use Rattle.std.proofs.Common.{sym, ap, ◌∙◌, append_assoc, add-zero, arith, length-set, length-append, length-drop, take-append-drop, drop-set-lt, drop-cons, get_or-set_same, length-take-le, drop-drop, take_at, le-leb}
use Rattle.std.proofs.lemmas.List.{take-set-le}
use Rattle.std.proofs.Math.Seq.{drop-append-add}
use Rattle.std.proofs.lemmas.Bool.{lt-leb}
use Rattle.image_bytes.specs.Code.Writing.{laid, put_at}

-- ---- bytes laid over others

pub laid_nil : (at : ℕ) (l : List ℕ) → laid at [] l ≡ l
unfolding laid
laid_nil at l = rw add-zero (take-append-drop at l)

pub laid_snoc : (at : ℕ) (xs : List ℕ) (d : ℕ) (l : List ℕ) → at + length xs < length l → laid at xs (set l (at + length xs) d) ≡ laid at (xs ++ (d ∷ [])) l
unfolding laid
laid_snoc at xs d l h =
    let p = at + length xs in
    let c : drop p (set l p d) ≡ d ∷ drop (suc p) l =
    drop-cons (set l p d) p 0 (rw length-set h) ∙ rw (get_or-set_same l p d 0 h, drop-set-lt (suc p) l p d (omega arith)) in
    let e : at + length (xs ++ (d ∷ [])) ≡ suc p = rw length-append (omega arith) in
    rw (take-set-le at l p d (omega arith), c, e, append_assoc)

pub length_laid : (at : ℕ) (xs l : List ℕ) → at + length xs ≤ length l → length (laid at xs l) ≡ length l
unfolding laid
length_laid at xs l h = simp (length-append, length-take-le at l (omega arith), length-drop) (omega arith)

-- writing goes on where it stopped
pub laid_append : (at : ℕ) (xs ys l : List ℕ) → at + length xs ≤ length l → laid (at + length xs) ys (laid at xs l) ≡ laid at (xs ++ ys) l
unfolding laid
laid_append at xs ys l h =
    let q = at + length xs in
    let lp : length (take at l ++ xs) ≡ at + length xs = rw (length-append, length-take-le at l (omega arith)) in
    let a : take q (take at l ++ (xs ++ drop q l)) ≡ take at l ++ xs =
    rw (← append_assoc (take at l) xs (drop q l)) (take_at (take at l ++ xs) (drop q l) q lp) in
    let b : drop (q + length ys) (take at l ++ (xs ++ drop q l)) ≡ drop (q + length ys) l =
    rw (← append_assoc (take at l) xs (drop q l))
    (ap (λ (k : ℕ). drop (k + length ys) ((take at l ++ xs) ++ drop q l)) (sym lp)
    ∙ drop-append-add (take at l ++ xs) (drop q l) (length ys)
    ∙ drop-drop (length ys) q l) in
    let e : at + length (xs ++ ys) ≡ q + length ys = rw length-append (omega arith) in
    rw (a, b, e) (simp append_assoc)

-- ---- where they fit, and where not

pub put_fits : (at : ℕ) (xs l : List ℕ) → at + length xs ≤ length l → laid at xs l ≡ put_at at xs l
unfolding put_at
put_fits at xs l h = rw (le-leb (at + length xs) (length l) h)

pub put_not : (at : ℕ) (xs l : List ℕ) → length l < at + length xs → l ≡ put_at at xs l
unfolding put_at
put_not at xs l h = rw (lt-leb (at + length xs) (length l) h)

pub length_put : (at : ℕ) (xs l : List ℕ) → at + length xs ≤ length l → length (put_at at xs l) ≡ length l
length_put at xs l h = ap length (sym (put_fits at xs l h)) ∙ length_laid at xs l h

-- two writings that fit are one
pub put_append : (at : ℕ) (xs ys l : List ℕ) → at + length xs + length ys ≤ length l → put_at (at + length xs) ys (put_at at xs l) ≡ put_at at (xs ++ ys) l
put_append at xs ys l h =
    let first : at + length xs ≤ length l = omega arith in
    let n : length (put_at at xs l) ≡ length l = length_put at xs l first in
    let whole : at + length (xs ++ ys) ≤ length l = rw length-append (omega arith) in
    sym (put_fits (at + length xs) ys (put_at at xs l) (rw n h))
    ∙ ap (laid (at + length xs) ys) (sym (put_fits at xs l first))
    ∙ laid_append at xs ys l first
    ∙ put_fits at (xs ++ ys) l whole
