-- Seven places in descending order hold the seven largest needs, and their sum is cut at 2,048.
use Rattle.std.specs.Prelude.{ℕ, zero, suc, ◌+◌, min, ◌≤◌, ◌<◌, ◌≡◌, refl, Bool, true, false, cond, List, [], ◌∷◌, ◌++◌, leb, length, get_or, set, take, drop}
use Rattle.std.proofs.Common.{add-one, arith, ap, ◌∙◌, drop_of_length-le, take_all, drop-cons, take-suc-set, drop-set-lt, le-leb}
use Rattle.std.proofs.lemmas.List.{append_assoc, append-nil}
use Rattle.std.proofs.lemmas.Bool.{lt-leb}
use Rattle.window.specs.Limits.{most_registers}
use Rattle.filling.specs.Filling.{most_chosen, total, inserted, descending, ceiling_of}
use Rattle.filling.proofs.Laws.Ceiling.{Below, Falls, falls}
use Rattle.filling_search.specs.Code.Steps.{pushed, onto, tops_of}

-- the first k of a list, zeros where it is shorter
unfoldable padded : ℕ → List ℕ → List ℕ
padded zero l = []
padded (suc k) [] = 0 ∷ padded k []
padded (suc k) (x ∷ l) = x ∷ padded k l

push_zero : (k : ℕ) → pushed 0 (padded k []) ≡ padded k []
unfolding padded pushed
push_zero zero = refl
push_zero (suc k) = ap (λ (l : List ℕ). 0 ∷ l) (push_zero k)

push_here : (n m : ℕ) (l : List ℕ) → m ≤ n → pushed n (m ∷ l) ≡ n ∷ pushed m l
unfolding pushed
push_here n m l h = ap (λ (b : Bool). cond b (n ∷ pushed m l) (m ∷ pushed n l)) (le-leb m n h)

-- what is as large as all goes in front
push_front : (k m : ℕ) (l : List ℕ) → Below m l → Falls l → pushed m (padded k l) ≡ padded k (m ∷ l)
unfolding padded pushed
push_front zero m l b f = refl
push_front (suc k) m [] b f = push_here m 0 (padded k []) (omega arith) ∙ ap (λ (l : List ℕ). m ∷ l) (push_zero k)
push_front (suc k) m (x ∷ l) b f = push_here m x (padded k l) b.0 ∙ ap (λ (l : List ℕ). m ∷ l) (push_front k x l f.0 f.1)

push_padded : (k n : ℕ) (l : List ℕ) → Falls l → pushed n (padded k l) ≡ padded k (inserted n l)
unfolding padded inserted pushed
push_padded zero n l f = refl
push_padded (suc k) n [] f = push_here n 0 (padded k []) (omega arith) ∙ ap (λ (l : List ℕ). n ∷ l) (push_zero k)
push_padded (suc k) n (m ∷ l) f = go (leb m n) (push_padded k n l f.1)
  where
    go : (b : Bool) → pushed n (padded k l) ≡ padded k (inserted n l)
        → cond b (n ∷ pushed m (padded k l)) (m ∷ pushed n (padded k l)) ≡ padded (suc k) (cond b (n ∷ m ∷ l) (m ∷ inserted n l))
    go true ih = ap (λ (x : List ℕ). n ∷ x) (push_front k m l f.0 f.1)
    go false ih = ap (λ (x : List ℕ). m ∷ x) ih

tops_padded : (needs : List ℕ) → tops_of needs ≡ padded most_chosen (descending needs)
unfolding tops_of onto descending padded
tops_padded [] = refl
tops_padded (n ∷ ns) = ap (pushed n) (tops_padded ns) ∙ push_padded most_chosen n (descending ns) (falls ns)

total_padded : (k : ℕ) (l : List ℕ) → total (padded k l) ≡ total (take k l)
unfolding padded total
total_padded zero l = refl
total_padded (suc k) [] = let h : total (padded k []) ≡ total (take k []) = total_padded k [] in none_more k h
  where
    none_more : (k : ℕ) → total (padded k []) ≡ total (take k []) → 0 + total (padded k []) ≡ 0
    none_more zero h = omega arith
    none_more (suc k) h = omega (arith, h)
total_padded (suc k) (x ∷ l) = ap (λ (n : ℕ). x + n) (total_padded k l)

pub total_tops : (needs : List ℕ) → total (tops_of needs) ≡ total (take most_chosen (descending needs))
total_tops needs = ap total (tops_padded needs) ∙ total_padded most_chosen (descending needs)

-- ---- a number pushed, and the needs one after the other

pub push_next : (l : List ℕ) (j n : ℕ) → j < length l → get_or l j 0 ≤ n
    → take j l ++ pushed n (drop j l) ≡ take (j + 1) (set l j n) ++ pushed (get_or l j 0) (drop (j + 1) (set l j n))
unfolding pushed
push_next l j n h le =
    let less : j < suc j = omega arith in
    rw (add-one, take-suc-set l j n, drop-set-lt (suc j) l j n, append_assoc, drop-cons l j 0, le-leb (get_or l j 0) n) refl

pub push_past : (l : List ℕ) (j n : ℕ) → j < length l → n < get_or l j 0
    → take j l ++ pushed n (drop j l) ≡ take (j + 1) (set l j (get_or l j 0)) ++ pushed n (drop (j + 1) (set l j (get_or l j 0)))
unfolding pushed
push_past l j n h lt =
    let less : j < suc j = omega arith in
    rw (add-one, take-suc-set l j (get_or l j 0), drop-set-lt (suc j) l j (get_or l j 0), append_assoc, drop-cons l j 0, lt-leb (get_or l j 0) n) refl

pub push_end : (l : List ℕ) (j n : ℕ) → length l ≤ j → l ≡ take j l ++ pushed n (drop j l)
unfolding pushed
push_end l j n h = rw (drop_of_length-le l h, take_all j l h, append-nil) refl

-- the last number goes in first
pub onto_last : (places ns : List ℕ) (n : ℕ) → onto places (ns ++ (n ∷ [])) ≡ onto (pushed n places) ns
unfolding onto
onto_last places [] n = refl
onto_last places (m ∷ ns) n = ap (pushed m) (onto_last places ns n)

pub ceiling_found : (needs places rest : List ℕ) → length rest ≡ 0 → onto places rest ≡ tops_of needs → min most_registers (total places) ≡ ceiling_of needs
unfolding onto ceiling_of
ceiling_found needs places [] none e = rw e (ap (min most_registers) (total_tops needs))
ceiling_found needs places (n ∷ ns) none e = absurd (omega arith)

-- ---- a sum cut at 2,048

pub total_next : (l : List ℕ) (i : ℕ) → i < length l → total (drop i l) ≡ get_or l i 0 + total (drop (i + 1) l)
unfolding total
total_next l i h = rw (drop-cons l i 0 h, add-one) refl

pub total_none : (l : List ℕ) (i : ℕ) → length l ≤ i → total (drop i l) ≡ 0
unfolding total
total_none l i h = ap total (drop_of_length-le l h)
