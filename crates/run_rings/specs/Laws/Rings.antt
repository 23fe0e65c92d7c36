-- A ring among others: what a store in it changes, and turn, leave and join.
use Rattle.std.specs.Prelude.{◌≡◌, refl, ◌≢◌, Bool, true, false, cond, List, ◌∷◌, ℕ, zero, suc, ◌+◌, ◌-◌, ◌*◌, ◌%◌, ◌≤◌, ◌<◌, ltb, length, get_or, set, take, drop}
use Rattle.std.proofs.Common.{sym, ap, ap₂, ◌∙◌, arith, add-zero, zero-add, get_or-set_same, get_or-set_other, get_or-take, get_or-drop, drop-set-lt, lt-ltb, le-ltb, ne_eqb, ltb-true, ltb-false}
use Rattle.std.proofs.Math.Seq.{take-set-lt}
use Rattle.std.proofs.lemmas.List.{take-set-le, drop-set-add}
use Rattle.std.proofs.lemmas.Bool.{lt-leb}
use Rattle.step.specs.declared.Queue.{Queue}
use Rattle.step.specs.Queues.{head_of, after_head, tail_index, turned, shifted, joined}
use Rattle.step.specs.State.{no_queue, queue_in, with_queue}
use Rattle.step.specs.Act.{turned_at, left_at, joined_at, passed_to}
use Rattle.run_rings.specs.Code.Rings.{queue_at, queues_from, queues_in, Moves}

abbrev pub queue : List ℕ → ℕ → ℕ → Queue
queue a h n = record { pts = a; head = h; len = n }

-- ---- the places of a ring

abbrev pub places : List ℕ → ℕ → List ℕ
places pts k = take 64 (drop (64 * k) pts)

places_mine : (pts : List ℕ) (k i v : ℕ) → i < 64 → places (set pts (64 * k + i) v) k ≡ set (places pts k) i v
places_mine pts k i v h = ap (take 64) (drop-set-add (64 * k) pts i v) ∙ take-set-lt 64 (drop (64 * k) pts) i v h

pub places_before : (pts : List ℕ) (j m v : ℕ) → 64 * j + 64 ≤ m → places (set pts m v) j ≡ places pts j
places_before pts j m v h =
    let e : m ≡ 64 * j + (m - 64 * j) = omega arith in
    ap (λ (x : ℕ). places (set pts x v) j) e
    ∙ ap (take 64) (drop-set-add (64 * j) pts (m - 64 * j) v)
    ∙ take-set-le 64 (drop (64 * j) pts) (m - 64 * j) v (omega arith)

pub places_behind : (pts : List ℕ) (j m v : ℕ) → m < 64 * j → places (set pts m v) j ≡ places pts j
places_behind pts j m v h = ap (take 64) (drop-set-lt (64 * j) pts m v h)

-- a store in ring k leaves the places of any other
places_other : (pts : List ℕ) (j k i v : ℕ) → j ≢ k → i < 64 → places (set pts (64 * k + i) v) j ≡ places pts j
places_other pts j k i v n h = go (ltb j k) refl
  where
    go : (b : Bool) → ltb j k ≡ b → places (set pts (64 * k + i) v) j ≡ places pts j
    go true e = places_before pts j (64 * k + i) v (omega (arith, ltb-true j k e))
    go false e = places_behind pts j (64 * k + i) v (omega (arith, ltb-false j k e, n))

pub queue_eq : (a b : List ℕ) (g h m n : ℕ) → a ≡ b → g ≡ h → m ≡ n → queue a g m ≡ queue b h n
queue_eq a b g h m n p q r = ap (λ (x : List ℕ). queue x g m) p ∙ ap (λ (x : ℕ). queue b x m) q ∙ ap (λ (x : ℕ). queue b h x) r

-- the PT at the head of ring k
pub head_at : (pts heads lens : List ℕ) (k : ℕ) → head_of (queue_at pts heads lens k) ≡ get_or pts (64 * k + get_or heads k 0 % 64) 0
unfolding queue_at head_of
head_at pts heads lens k =
    get_or-take 64 (drop (64 * k) pts) (get_or heads k 0 % 64) 0 (omega arith) ∙ get_or-drop (64 * k) pts (get_or heads k 0 % 64) 0

-- ---- turn, leave and join

pub turn_moves : (pts heads lens : List ℕ) (k n : ℕ) → k < length heads → get_or lens k 0 ≡ n → 2 ≤ n
    → Moves k turned pts heads lens
    (set pts (64 * k + (get_or heads k 0 % 64 + n) % 64) (get_or pts (64 * k + get_or heads k 0 % 64) 0))
    (set heads k ((get_or heads k 0 % 64 + 1) % 64)) lens
unfolding queue_at turned tail_index after_head
turn_moves pts heads lens k n l e m =
    let h = get_or heads k 0 in
    let v = get_or pts (64 * k + h % 64) 0 in
    let i : (h % 64 + n) % 64 ≡ (h % 64 + get_or lens k 0 % 64) % 64 = omega (arith, e) in
    record {
      mine =
          queue_eq (places (set pts (64 * k + (h % 64 + n) % 64) v) k) (set (places pts k) ((h % 64 + get_or lens k 0 % 64) % 64) (head_of (queue_at pts heads lens k)))
          (get_or (set heads k ((h % 64 + 1) % 64)) k 0) ((h % 64 + 1) % 64) (get_or lens k 0) (get_or lens k 0)
          (places_mine pts k ((h % 64 + n) % 64) v (omega arith)
          ∙ ap (λ (x : ℕ). set (places pts k) x v) i
          ∙ ap (set (places pts k) ((h % 64 + get_or lens k 0 % 64) % 64)) (sym (head_at pts heads lens k)))
          (get_or-set_same heads k ((h % 64 + 1) % 64) 0 l)
          refl
          ∙ sym (ap (λ (b : Bool). cond b (queue_at pts heads lens k) (queue (set (places pts k) ((h % 64 + get_or lens k 0 % 64) % 64) (head_of (queue_at pts heads lens k))) ((h % 64 + 1) % 64) (get_or lens k 0)))
          (le-ltb (get_or lens k 0) 2 (omega (arith, e))));
      others = λ j d.
          queue_eq (places (set pts (64 * k + (h % 64 + n) % 64) v) j) (places pts j) (get_or (set heads k ((h % 64 + 1) % 64)) j 0) (get_or heads j 0) (get_or lens j 0) (get_or lens j 0)
          (places_other pts j k ((h % 64 + n) % 64) v d (omega arith)) (get_or-set_other heads k j ((h % 64 + 1) % 64) 0 d) refl;
    }

-- a queue of fewer than two processes is its own turn
pub turn_stays : (pts heads lens : List ℕ) (k n : ℕ) → get_or lens k 0 ≡ n → n < 2 → Moves k turned pts heads lens pts heads lens
unfolding queue_at turned
turn_stays pts heads lens k n e m =
    let h = get_or heads k 0 in
    record {
      mine = sym (ap (λ (b : Bool). cond b (queue_at pts heads lens k) (queue (set (places pts k) (tail_index (queue_at pts heads lens k)) (head_of (queue_at pts heads lens k))) (after_head (queue_at pts heads lens k)) (get_or lens k 0)))
          (lt-ltb (get_or lens k 0) 2 (omega (arith, e))));
      others = λ j d. refl;
    }

pub leave_moves : (pts heads lens : List ℕ) (k n : ℕ) → k < length heads → k < length lens → get_or lens k 0 ≡ n → 0 < n
    → Moves k shifted pts heads lens pts (set heads k ((get_or heads k 0 % 64 + 1) % 64)) (set lens k (n - 1))
unfolding queue_at shifted after_head
leave_moves pts heads lens k n l m e p =
    let h = get_or heads k 0 in
    record {
      mine =
          queue_eq (places pts k) (places pts k) (get_or (set heads k ((h % 64 + 1) % 64)) k 0) ((h % 64 + 1) % 64) (get_or (set lens k (n - 1)) k 0) (get_or lens k 0 - 1)
          refl
          (get_or-set_same heads k ((h % 64 + 1) % 64) 0 l)
          (get_or-set_same lens k (n - 1) 0 m ∙ ap (λ (x : ℕ). x - 1) (sym e))
          ∙ sym (ap (λ (b : Bool). cond b (queue_at pts heads lens k) (queue (places pts k) ((h % 64 + 1) % 64) (get_or lens k 0 - 1)))
          (ne_eqb (get_or lens k 0) 0 (λ z. omega (arith, e, p, z))));
      others = λ j d.
          queue_eq (places pts j) (places pts j) (get_or (set heads k ((h % 64 + 1) % 64)) j 0) (get_or heads j 0) (get_or (set lens k (n - 1)) j 0) (get_or lens j 0)
          refl (get_or-set_other heads k j ((h % 64 + 1) % 64) 0 d) (get_or-set_other lens k j (n - 1) 0 d);
    }

pub join_moves : (pts heads lens : List ℕ) (k n p : ℕ) → k < length lens → get_or lens k 0 ≡ n → n < 64
    → Moves k (λ q. joined q p) pts heads lens (set pts (64 * k + (get_or heads k 0 % 64 + n) % 64) p) heads (set lens k (n + 1))
unfolding queue_at joined tail_index
join_moves pts heads lens k n p m e f =
    let h = get_or heads k 0 in
    let i : (h % 64 + n) % 64 ≡ (h % 64 + get_or lens k 0 % 64) % 64 = omega (arith, e) in
    record {
      mine =
          queue_eq (places (set pts (64 * k + (h % 64 + n) % 64) p) k) (set (places pts k) ((h % 64 + get_or lens k 0 % 64) % 64) p) h h (get_or (set lens k (n + 1)) k 0) (get_or lens k 0 + 1)
          (places_mine pts k ((h % 64 + n) % 64) p (omega arith) ∙ ap (λ (x : ℕ). set (places pts k) x p) i)
          refl
          (get_or-set_same lens k (n + 1) 0 m ∙ ap (λ (x : ℕ). x + 1) (sym e))
          ∙ sym (ap (λ (b : Bool). cond b (queue_at pts heads lens k) (queue (set (places pts k) ((h % 64 + get_or lens k 0 % 64) % 64) p) h (get_or lens k 0 + 1)))
          (lt-leb 64 (get_or lens k 0) (omega (arith, e, f))));
      others = λ j d.
          queue_eq (places (set pts (64 * k + (h % 64 + n) % 64) p) j) (places pts j) (get_or heads j 0) (get_or heads j 0) (get_or (set lens k (n + 1)) j 0) (get_or lens j 0)
          (places_other pts j k ((h % 64 + n) % 64) p d (omega arith)) refl (get_or-set_other lens k j (n + 1) 0 d);
    }

-- one move behind another
pub moves_twice : (k : ℕ) (f g : Queue → Queue) (a b c a' b' c' a'' b'' c'' : List ℕ) → Moves k f a b c a' b' c' → Moves k g a' b' c' a'' b'' c''
    → Moves k (λ q. g (f q)) a b c a'' b'' c''
moves_twice k f g a b c a' b' c' a'' b'' c'' m n = record { mine = n.mine ∙ ap g m.mine; others = λ j d. n.others j d ∙ m.others j d }

-- ---- the queues in n rings

pub length_queues : (n k : ℕ) (a b c : List ℕ) → length (queues_from n k a b c) ≡ n
unfolding queues_from
length_queues zero k a b c = refl
length_queues (suc n) k a b c = ap suc (length_queues n (suc k) a b c)

pub queue_of_ring : (n k i : ℕ) (a b c : List ℕ) → i < n → get_or (queues_from n k a b c) i no_queue ≡ queue_at a b c (k + i)
unfolding queues_from
queue_of_ring zero k i a b c h = absurd (omega arith)
queue_of_ring (suc n) k zero a b c h = ap (queue_at a b c) (sym (add-zero k))
queue_of_ring (suc n) k (suc i) a b c h =
    let e : suc k + i ≡ k + suc i = omega arith in queue_of_ring n (suc k) i a b c (omega arith) ∙ ap (queue_at a b c) e

pub rings_stay : (n k : ℕ) (a b c a' b' c' : List ℕ) → ((j : ℕ) → k ≤ j → j < k + n → queue_at a' b' c' j ≡ queue_at a b c j)
    → queues_from n k a' b' c' ≡ queues_from n k a b c
unfolding queues_from
rings_stay zero k a b c a' b' c' h = refl
rings_stay (suc n) k a b c a' b' c' h =
    ap₂ {C = List Queue} (λ x y. x ∷ y) (h k (omega arith) (omega arith)) (rings_stay n (suc k) a b c a' b' c' (λ j l m. h j (omega arith) (omega arith)))

-- a move in ring m of the n rings from k on
pub moved_from : (n k m : ℕ) (f : Queue → Queue) (a b c a' b' c' : List ℕ) → k ≤ m → m < k + n → Moves m f a b c a' b' c'
    → queues_from n k a' b' c' ≡ set (queues_from n k a b c) (m - k) (f (queue_at a b c m))
unfolding queues_from
moved_from zero k m f a b c a' b' c' l h x = absurd (omega arith)
moved_from (suc n) k m f a b c a' b' c' l h x =
    go (m - k) refl (λ q. moved_from n (suc k) m f a b c a' b' c' q (omega arith) x)
  where
    go : (i : ℕ) → m - k ≡ i
        → (suc k ≤ m → queues_from n (suc k) a' b' c' ≡ set (queues_from n (suc k) a b c) (m - suc k) (f (queue_at a b c m)))
        → queue_at a' b' c' k ∷ queues_from n (suc k) a' b' c' ≡ set (queue_at a b c k ∷ queues_from n (suc k) a b c) i (f (queue_at a b c m))
    go zero e ih =
        let s : k ≡ m = omega (arith, e, l) in
        ap₂ {C = List Queue} (λ x y. x ∷ y) (ap (queue_at a' b' c') s ∙ x.mine)
        (rings_stay n (suc k) a b c a' b' c' (λ j q r. x.others j (λ t. omega (arith, t, s, q))))
    go (suc i) e ih =
        let s : m - suc k ≡ i = omega (arith, e) in
        ap₂ {C = List Queue} (λ x y. x ∷ y) (x.others k (λ t. omega (arith, t, e)))
        (ih (omega (arith, e))
        ∙ ap (λ (i : ℕ). set (queues_from n (suc k) a b c) i (f (queue_at a b c m))) s)

-- ---- the queues in all rings

pub in_ring : (a b c : List ℕ) (k : ℕ) → k < 16 → queue_in (queues_in a b c) k ≡ queue_at a b c k
unfolding queue_in queues_in
in_ring a b c k h = queue_of_ring 16 0 k a b c h ∙ ap (queue_at a b c) (zero-add k)

pub moved_in : (m : ℕ) (f : Queue → Queue) (a b c a' b' c' : List ℕ) → m < 16 → Moves m f a b c a' b' c'
    → queues_in a' b' c' ≡ with_queue (queues_in a b c) m (f (queue_in (queues_in a b c) m))
unfolding queues_in with_queue
moved_in m f a b c a' b' c' h x =
    let e : m - 0 ≡ m = omega arith in
    moved_from 16 0 m f a b c a' b' c' (omega arith) h x ∙ ap (λ (i : ℕ). set (queues_from 16 0 a b c) i (f (queue_at a b c m))) e ∙ ap (λ (q : Queue). set (queues_from 16 0 a b c) m (f q)) (sym (in_ring a b c m h))

pub turned_in : (k : ℕ) (a b c a' b' c' : List ℕ) → k < 16 → Moves k turned a b c a' b' c' → queues_in a' b' c' ≡ turned_at (queues_in a b c) k
unfolding turned_at
turned_in k a b c a' b' c' h x = moved_in k turned a b c a' b' c' h x

pub left_in_lem : (k : ℕ) (a b c a' b' c' : List ℕ) → k < 16 → Moves k shifted a b c a' b' c' → queues_in a' b' c' ≡ left_at (queues_in a b c) k
unfolding left_at
left_in_lem k a b c a' b' c' h x = moved_in k shifted a b c a' b' c' h x

pub joined_in : (k p : ℕ) (a b c a' b' c' : List ℕ) → k < 16 → Moves k (λ q. joined q p) a b c a' b' c' → queues_in a' b' c' ≡ joined_at (queues_in a b c) k p
unfolding joined_at
joined_in k p a b c a' b' c' h x = moved_in k (λ q. joined q p) a b c a' b' c' h x

-- the head of ring j leaves and joins ring k
pub passed_in : (j k p : ℕ) (a b c a' b' c' a'' b'' c'' : List ℕ) → j < 16 → k < 16 → p ≡ head_of (queue_at a b c j) → Moves j shifted a b c a' b' c'
    → Moves k (λ q. joined q p) a' b' c' a'' b'' c'' → queues_in a'' b'' c'' ≡ passed_to (queues_in a b c) j k
unfolding passed_to
passed_in j k p a b c a' b' c' a'' b'' c'' h i e x y =
    joined_in k p a' b' c' a'' b'' c'' i y
    ∙ ap (λ (qs : List Queue). joined_at qs k p) (left_in_lem j a b c a' b' c' h x)
    ∙ ap (joined_at (left_at (queues_in a b c) j) k) (e ∙ ap head_of (sym (in_ring a b c j h)))

pub length_in : (a b c : List ℕ) → length (queues_in a b c) ≡ 16
unfolding queues_in
length_in a b c = length_queues 16 0 a b c

pub len_in : (a b c : List ℕ) (k : ℕ) → k < 16 → (queue_in (queues_in a b c) k).len ≡ get_or c k 0
unfolding queue_at
len_in a b c k h = ap (λ (q : Queue). q.len) (in_ring a b c k h)

-- a move in one ring leaves the length of another
pub moves_len : (k j : ℕ) (f : Queue → Queue) (a b c a' b' c' : List ℕ) → j ≢ k → Moves k f a b c a' b' c' → get_or c' j 0 ≡ get_or c j 0
unfolding queue_at
moves_len k j f a b c a' b' c' n m = ap (λ (q : Queue). q.len) (m.others j n)

-- a PT joins ring k behind another motion
pub then_joined : (k p : ℕ) (qs : List Queue) (a b c a' b' c' : List ℕ) → k < 16 → queues_in a b c ≡ qs → Moves k (λ q. joined q p) a b c a' b' c' → queues_in a' b' c' ≡ joined_at qs k p
then_joined k p qs a b c a' b' c' h e m = joined_in k p a b c a' b' c' h m ∙ ap (λ (x : List Queue). joined_at x k p) e
