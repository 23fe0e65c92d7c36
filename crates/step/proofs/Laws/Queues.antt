-- A queue in its array as a list: turn, leave and join; and the queues of all tasks.
use Rattle.std.specs.Prelude.{◌≡◌, refl, ◌≢◌, Bool, true, false, cond, List, [], ◌∷◌, ◌++◌, map, ℕ, zero, suc, ◌+◌, ◌-◌, ◌*◌, ◌/◌, ◌%◌, ◌≤◌, ◌<◌, eqb, leb, ltb, length, get_or, set, drop}
use Rattle.std.proofs.Common.{sym, ap, ap₂, ◌∙◌, le_of_suc-le-suc, not-suc-le-zero, arith, length-set, length-append, drop_of_length-le, get_or-set_same, get_or-set_other, drop-cons, add-one, le-ltb}
use Rattle.std.proofs.Math.Dec.{eqb-suc-zero}
use Rattle.std.proofs.lemmas.Bool.{lt-leb}
use Rattle.word.proofs.Laws.Bools.{Eq?, same, eq?, Le?, below, above, le?}
use Rattle.step.specs.declared.Queue.{Queue}
use Rattle.step.specs.Queues.{ring, list_of, head_of, after_head, tail_index, turned, shifted, joined, live_pts, live_counts, occ}
use Rattle.step.specs.State.{no_queue}
use Rattle.step.proofs.Laws.Occurrences.{occ_append, Heads, rot, rest}

-- ---- a ring

pub ring_same : (a : List ℕ) (h k n : ℕ) → h % 64 ≡ k % 64 → ring a h n ≡ ring a k n
unfolding ring
ring_same a h k zero e = refl
ring_same a h k (suc n) e =
    ap₂ {C = List ℕ} (λ x y. x ∷ y) (ap (λ (i : ℕ). get_or a i 0) e) (ring_same a (suc h) (suc k) n (omega arith))

-- a ring from an index in its array on
pub ring_first : (a : List ℕ) (h n : ℕ) → h < 64 → 0 < n → ring a h n ≡ get_or a h 0 ∷ ring a ((h + 1) % 64) (n - 1)
unfolding ring
ring_first a h zero p q = absurd (omega arith)
ring_first a h (suc n) p q =
    let m : n ≡ suc n - 1 = omega arith in
    let i : h % 64 ≡ h = omega arith in
    ap₂ {C = List ℕ} (λ x y. x ∷ y) (ap (λ (i : ℕ). get_or a i 0) i)
    (ring_same a (suc h) ((h + 1) % 64) n (omega arith) ∙ ap (ring a ((h + 1) % 64)) m)

ring_set : (a : List ℕ) (h n i v : ℕ) → ((j : ℕ) → j < n → (h + j) % 64 ≢ i) → ring (set a i v) h n ≡ ring a h n
unfolding ring
ring_set a h zero i v k = refl
ring_set a h (suc n) i v k =
    ap₂ {C = List ℕ} (λ x y. x ∷ y)
    (get_or-set_other a i (h % 64) v 0 (λ e. k 0 (omega arith) (omega arith)))
    (ring_set a (suc h) n i v (λ j l e. k (suc j) (omega arith) (omega arith)))

ring_snoc : (a : List ℕ) (h n : ℕ) → ring a h (suc n) ≡ ring a h n ++ (get_or a ((h + n) % 64) 0 ∷ [])
unfolding ring
ring_snoc a h zero = let e : h % 64 ≡ (h + 0) % 64 = omega arith in ap (λ (i : ℕ). get_or a i 0 ∷ []) e
ring_snoc a h (suc n) =
    let e : (suc h + n) % 64 ≡ (h + suc n) % 64 = omega arith in
    ap (λ (l : List ℕ). get_or a (h % 64) 0 ∷ l) (ring_snoc a (suc h) n ∙ ap (λ (i : ℕ). ring a (suc h) n ++ (get_or a i 0 ∷ [])) e)

ring_push : (a : List ℕ) (h n i v : ℕ) → length a ≡ 64 → n < 64 → i ≡ (h + n) % 64 → ring (set a i v) h (suc n) ≡ ring a h n ++ (v ∷ [])
ring_push a h n i v l k e =
    ring_snoc (set a i v) h n
    ∙ ap₂ {C = List ℕ} (λ x y. x ++ (y ∷ []))
    (ring_set a h n i v (λ j m q. omega arith))
    (ap (λ (j : ℕ). get_or (set a i v) j 0) (sym e) ∙ get_or-set_same a i v 0 (omega arith))

pub length_ring : (a : List ℕ) (h n : ℕ) → length (ring a h n) ≡ n
unfolding ring
length_ring a h zero = refl
length_ring a h (suc n) = ap suc (length_ring a (suc h) n)

-- ---- a queue

pub record Shaped (q : Queue) : Type 0 where
  pub full : length q.pts ≡ 64
  pub fits : q.len ≤ 64

pub length_list : (q : Queue) → length (list_of q) ≡ q.len
unfolding list_of
length_list q = length_ring q.pts q.head q.len

-- what stands at the head of a queue that is not empty
ring_heads : (a : List ℕ) (h n : ℕ) → n ≢ 0 → Heads (get_or a (h % 64) 0) (ring a h n)
unfolding ring
ring_heads a h zero k = absurd (k refl)
ring_heads a h (suc n) k = record { tail = ring a (suc h) n; is = refl }

pub heads : (q : Queue) → q.len ≢ 0 → Heads (head_of q) (list_of q)
unfolding list_of head_of
heads q n = ring_heads q.pts q.head q.len n

abbrev queue : List ℕ → ℕ → ℕ → Queue
queue a h n = record { pts = a; head = h; len = n }

turn_ring : (a : List ℕ) (h n : ℕ) → length a ≡ 64 → n ≤ 64 → list_of (turned (queue a h n)) ≡ rot (ring a h n)
unfolding turned list_of ring rot head_of after_head tail_index
turn_ring a h zero l k = refl
turn_ring a h (suc zero) l k = refl
turn_ring a h (suc (suc n)) l k =
    ap (λ (b : Bool). list_of (cond b (queue a h (suc (suc n))) (turn (suc (suc n))))) (le-ltb (suc (suc n)) 2 (omega arith))
    ∙ ring_same (set a ((h % 64 + suc (suc n) % 64) % 64) (get_or a (h % 64) 0)) ((h % 64 + 1) % 64) (suc h) (suc (suc n)) (omega arith)
    ∙ ring_push a (suc h) (suc n) ((h % 64 + suc (suc n) % 64) % 64) (get_or a (h % 64) 0) l (omega arith) (omega arith)
  where
    turn : ℕ → Queue
    turn k = queue (set a ((h % 64 + k % 64) % 64) (get_or a (h % 64) 0)) ((h % 64 + 1) % 64) k

-- head to tail
pub turned_list : (q : Queue) → Shaped q → list_of (turned q) ≡ rot (list_of q)
unfolding list_of
turned_list q s = turn_ring q.pts q.head q.len s.full s.fits

shift_ring : (a : List ℕ) (h n : ℕ) → list_of (shifted (queue a h n)) ≡ rest (ring a h n)
unfolding shifted list_of ring rest after_head
shift_ring a h zero = refl
shift_ring a h (suc n) =
    ap (λ (b : Bool). list_of (cond b (queue a h (suc n)) (queue a ((h % 64 + 1) % 64) (suc n - 1)))) (eqb-suc-zero n)
    ∙ ap (ring a ((h % 64 + 1) % 64)) less
    ∙ ring_same a ((h % 64 + 1) % 64) (suc h) n (omega arith)
  where
    less : suc n - 1 ≡ n
    less = omega arith

-- the head leaves
pub shifted_list : (q : Queue) → list_of (shifted q) ≡ rest (list_of q)
unfolding list_of
shifted_list q = shift_ring q.pts q.head q.len

-- a PT joins a queue that has room
pub joined_list : (q : Queue) (p : ℕ) → Shaped q → q.len < 64 → list_of (joined q p) ≡ list_of q ++ (p ∷ [])
unfolding joined list_of tail_index
joined_list q p s k =
    ap (λ (b : Bool). list_of (cond b q (queue (set q.pts ((q.head % 64 + q.len % 64) % 64) p) q.head (q.len + 1)))) (lt-leb 64 q.len k)
    ∙ ap (ring (set q.pts ((q.head % 64 + q.len % 64) % 64) p) q.head) (add-one q.len)
    ∙ ring_push q.pts q.head q.len ((q.head % 64 + q.len % 64) % 64) p s.full k (omega arith)

pub turned_shaped : (q : Queue) → Shaped q → Shaped (turned q)
unfolding turned
turned_shaped q s = go (ltb q.len 2)
  where
    go : (b : Bool) → Shaped (cond b q (queue (set q.pts (tail_index q) (head_of q)) (after_head q) q.len))
    go true = s
    go false = record { full = length-set q.pts (tail_index q) (head_of q) ∙ s.full; fits = s.fits }

pub shifted_shaped : (q : Queue) → Shaped q → Shaped (shifted q)
unfolding shifted
shifted_shaped q s = go (eqb q.len 0)
  where
    go : (b : Bool) → Shaped (cond b q (queue q.pts (after_head q) (q.len - 1)))
    go true = s
    go false = record { full = s.full; fits = omega (arith, s.fits) }

pub joined_shaped : (q : Queue) (p : ℕ) → Shaped q → Shaped (joined q p)
unfolding joined
joined_shaped q p s = go (leb 64 q.len) (le? 64 q.len)
  where
    go : (b : Bool) → Le? 64 q.len b → Shaped (cond b q (queue (set q.pts (tail_index q) p) q.head (q.len + 1)))
    go true (below k) = s
    go false (above k) = record { full = length-set q.pts (tail_index q) p ∙ s.full; fits = omega arith }

pub turned_len : (q : Queue) → (turned q).len ≡ q.len
unfolding turned
turned_len q = go (ltb q.len 2)
  where
    go : (b : Bool) → (cond b q (queue (set q.pts (tail_index q) (head_of q)) (after_head q) q.len)).len ≡ q.len
    go true = refl
    go false = refl

pub shifted_len : (q : Queue) → (shifted q).len ≡ q.len - 1
unfolding shifted
shifted_len q = go (eqb q.len 0) (eq? q.len 0)
  where
    go : (b : Bool) → Eq? q.len 0 b → (cond b q (queue q.pts (after_head q) (q.len - 1))).len ≡ q.len - 1
    go true (same e) = omega (arith, e)
    go false n = refl

pub joined_le : (q : Queue) (p : ℕ) → (joined q p).len ≤ q.len + 1
unfolding joined
joined_le q p = go (leb 64 q.len)
  where
    go : (b : Bool) → (cond b q (queue (set q.pts (tail_index q) p) q.head (q.len + 1))).len ≤ q.len + 1
    go true = omega arith
    go false = omega arith

pub joined_len : (q : Queue) (p : ℕ) → q.len < 64 → (joined q p).len ≡ q.len + 1
unfolding joined
joined_len q p h = rw (lt-leb 64 q.len h)

-- ---- all queues

-- the PTs of the queues from the kth on
pub live_next : (qs : List Queue) (k : ℕ) → k < length qs → live_pts (drop k qs) ≡ list_of (get_or qs k no_queue) ++ live_pts (drop (k + 1) qs)
unfolding live_pts
live_next qs k h =
    let m : suc k ≡ k + 1 = omega arith in ap live_pts (drop-cons qs k no_queue h) ∙ ap (λ (i : ℕ). list_of (get_or qs k no_queue) ++ live_pts (drop i qs)) m

pub live_none : (qs : List Queue) (k : ℕ) → length qs ≤ k → live_pts (drop k qs) ≡ []
unfolding live_pts
live_none qs k h = ap live_pts (drop_of_length-le qs h)

-- where a queue is replaced, the numbers of the old one go and those of the new one come
pub occ_set : (p : ℕ) (qs : List Queue) (i : ℕ) (x : Queue) → i < length qs
    → occ p (live_pts (set qs i x)) + occ p (list_of (get_or qs i no_queue)) ≡ occ p (live_pts qs) + occ p (list_of x)
unfolding live_pts
occ_set p [] i x h = absurd (not-suc-le-zero h)
occ_set p (q ∷ qs) zero x h = omega (arith, occ_append p (list_of x) (live_pts qs), occ_append p (list_of q) (live_pts qs))
occ_set p (q ∷ qs) (suc i) x h =
    omega (arith, occ_append p (list_of q) (live_pts (set qs i x)), occ_append p (list_of q) (live_pts qs), occ_set p qs i x (le_of_suc-le-suc h))

pub occ_get : (p : ℕ) (qs : List Queue) (i : ℕ) → i < length qs → occ p (list_of (get_or qs i no_queue)) ≤ occ p (live_pts qs)
unfolding live_pts
occ_get p [] i h = absurd (not-suc-le-zero h)
occ_get p (q ∷ qs) zero h = omega (arith, occ_append p (list_of q) (live_pts qs))
occ_get p (q ∷ qs) (suc i) h = omega (arith, occ_append p (list_of q) (live_pts qs), occ_get p qs i (le_of_suc-le-suc h))

-- two queues share no number that stands once in all
pub occ_two : (p : ℕ) (qs : List Queue) (i j : ℕ) → i ≢ j → i < length qs → j < length qs
    → occ p (list_of (get_or qs i no_queue)) + occ p (list_of (get_or qs j no_queue)) ≤ occ p (live_pts qs)
unfolding live_pts
occ_two p [] i j n h k = absurd (not-suc-le-zero h)
occ_two p (q ∷ qs) zero zero n h k = absurd (n refl)
occ_two p (q ∷ qs) zero (suc j) n h k = omega (arith, occ_append p (list_of q) (live_pts qs), occ_get p qs j (le_of_suc-le-suc k))
occ_two p (q ∷ qs) (suc i) zero n h k = omega (arith, occ_append p (list_of q) (live_pts qs), occ_get p qs i (le_of_suc-le-suc h))
occ_two p (q ∷ qs) (suc i) (suc j) n h k =
    omega (arith, occ_append p (list_of q) (live_pts qs), occ_two p qs i j (λ e. n (ap suc e)) (le_of_suc-le-suc h) (le_of_suc-le-suc k))

pub length_live : (qs : List Queue) (i : ℕ) (x : Queue) → i < length qs
    → length (live_pts (set qs i x)) + (get_or qs i no_queue).len ≡ length (live_pts qs) + x.len
unfolding live_pts
length_live [] i x h = absurd (not-suc-le-zero h)
length_live (q ∷ qs) zero x h =
    omega (arith, length-append (list_of x) (live_pts qs), length-append (list_of q) (live_pts qs), length_list x, length_list q)
length_live (q ∷ qs) (suc i) x h =
    omega (arith, length-append (list_of q) (live_pts (set qs i x)), length-append (list_of q) (live_pts qs), length_live qs i x (le_of_suc-le-suc h))

pub len_get : (qs : List Queue) (i : ℕ) → i < length qs → (get_or qs i no_queue).len ≤ length (live_pts qs)
unfolding live_pts
len_get [] i h = absurd (not-suc-le-zero h)
len_get (q ∷ qs) zero h = omega (arith, length-append (list_of q) (live_pts qs), length_list q)
len_get (q ∷ qs) (suc i) h = omega (arith, length-append (list_of q) (live_pts qs), len_get qs i (le_of_suc-le-suc h))

pub len_two : (qs : List Queue) (i j : ℕ) → i ≢ j → i < length qs → j < length qs → (get_or qs i no_queue).len + (get_or qs j no_queue).len ≤ length (live_pts qs)
unfolding live_pts
len_two [] i j n h k = absurd (not-suc-le-zero h)
len_two (q ∷ qs) zero zero n h k = absurd (n refl)
len_two (q ∷ qs) zero (suc j) n h k = omega (arith, length-append (list_of q) (live_pts qs), length_list q, len_get qs j (le_of_suc-le-suc k))
len_two (q ∷ qs) (suc i) zero n h k = omega (arith, length-append (list_of q) (live_pts qs), length_list q, len_get qs i (le_of_suc-le-suc h))
len_two (q ∷ qs) (suc i) (suc j) n h k =
    omega (arith, length-append (list_of q) (live_pts qs), len_two qs i j (λ e. n (ap suc e)) (le_of_suc-le-suc h) (le_of_suc-le-suc k))

-- the live count at place i: the processes of its two queues
pub counts_get : (qs : List Queue) (i : ℕ) → get_or (live_counts qs) i 0 ≡ (get_or qs (2 * i) no_queue).len + (get_or qs (2 * i + 1) no_queue).len
unfolding live_counts
counts_get [] i = refl
counts_get (q ∷ []) zero = omega (arith, length_list q)
counts_get (q ∷ []) (suc i) =
    let a : 2 * suc i ≡ suc (suc (2 * i)) = omega arith in
    let b : 2 * suc i + 1 ≡ suc (suc (2 * i + 1)) = omega arith in
    ap₂ (λ (m n : ℕ). (get_or (q ∷ []) m no_queue).len + (get_or (q ∷ []) n no_queue).len) (sym a) (sym b)
counts_get (q ∷ w ∷ qs) zero = omega (arith, length_list q, length_list w)
counts_get (q ∷ w ∷ qs) (suc i) =
    let a : 2 * suc i ≡ suc (suc (2 * i)) = omega arith in
    let b : 2 * suc i + 1 ≡ suc (suc (2 * i + 1)) = omega arith in
    counts_get qs i ∙ ap₂ (λ (m n : ℕ). (get_or (q ∷ w ∷ qs) m no_queue).len + (get_or (q ∷ w ∷ qs) n no_queue).len) (sym a) (sym b)

pub length_counts : (qs : List Queue) → length (live_counts qs) ≡ (length qs + 1) / 2
unfolding live_counts
length_counts [] = refl
length_counts (q ∷ []) = refl
length_counts (q ∷ w ∷ qs) = omega (arith, length_counts qs)

-- the live counts are those of the queues' lengths, two by two
unfoldable pub pair_sums : List ℕ → List ℕ
pair_sums [] = []
pair_sums (m ∷ []) = m ∷ []
pair_sums (m ∷ n ∷ l) = (m + n) ∷ pair_sums l

abbrev pub lengths : List Queue → List ℕ
lengths qs = map (λ (q : Queue). q.len) qs

pub counts_lengths : (qs : List Queue) → live_counts qs ≡ pair_sums (lengths qs)
unfolding live_counts pair_sums
counts_lengths [] = refl
counts_lengths (q ∷ []) = ap {B = List ℕ} (λ n. n ∷ []) (length_list q)
counts_lengths (q ∷ w ∷ qs) = ap₂ {C = List ℕ} (λ n l. n ∷ l) (ap₂ ◌+◌ (length_list q) (length_list w)) (counts_lengths qs)

-- where a queue is replaced, the live count of its place loses the old one's processes and gains the new one's
pub counts_set : (qs : List Queue) (k : ℕ) (x : Queue) → k < length qs
    → live_counts (set qs k x) ≡ set (live_counts qs) (k / 2) (get_or (live_counts qs) (k / 2) 0 - (get_or qs k no_queue).len + x.len)
unfolding live_counts
counts_set [] k x h = refl
counts_set (q ∷ []) zero x h = ap (λ (n : ℕ). n ∷ []) (omega (arith, length_list q, length_list x))
counts_set (q ∷ []) (suc k) x h = absurd (not-suc-le-zero (le_of_suc-le-suc h))
counts_set (q ∷ w ∷ qs) zero x h = ap (λ (n : ℕ). n ∷ live_counts qs) (omega (arith, length_list q, length_list x))
counts_set (q ∷ w ∷ qs) (suc zero) x h = ap (λ (n : ℕ). n ∷ live_counts qs) (omega (arith, length_list w, length_list x))
counts_set (q ∷ w ∷ qs) (suc (suc k)) x h =
    let e : suc (suc k) / 2 ≡ suc (k / 2) = omega arith in
    rw e (ap (λ (l : List ℕ). (length (list_of q) + length (list_of w)) ∷ l) (counts_set qs k x (le_of_suc-le-suc (le_of_suc-le-suc h))))

-- and one of the same length leaves the live counts
pub counts_same : (qs : List Queue) (k : ℕ) (x : Queue) → x.len ≡ (get_or qs k no_queue).len → live_counts (set qs k x) ≡ live_counts qs
unfolding live_counts
counts_same [] k x e = refl
counts_same (q ∷ []) zero x e = ap (λ (n : ℕ). n ∷ []) (length_list x ∙ e ∙ sym (length_list q))
counts_same (q ∷ []) (suc k) x e = refl
counts_same (q ∷ w ∷ qs) zero x e = ap (λ (n : ℕ). (n + length (list_of w)) ∷ live_counts qs) (length_list x ∙ e ∙ sym (length_list q))
counts_same (q ∷ w ∷ qs) (suc zero) x e = ap (λ (n : ℕ). (length (list_of q) + n) ∷ live_counts qs) (length_list x ∙ e ∙ sym (length_list w))
counts_same (q ∷ w ∷ qs) (suc (suc k)) x e = ap (λ (l : List ℕ). (length (list_of q) + length (list_of w)) ∷ l) (counts_same qs k x e)
