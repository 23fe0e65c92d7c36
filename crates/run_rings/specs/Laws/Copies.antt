-- Queues into rings and back: the loops that copy a ring, and the loop over the queues.
use Rattle.std.specs.Prelude.{◌≡◌, refl, ◌≢◌, Bool, true, false, List, [], ◌∷◌, ◌++◌, ℕ, zero, suc, ◌+◌, ◌*◌, ◌≤◌, ◌<◌, ltb, length, get_or, set, take, drop}
use Rattle.std.proofs.Common.{sym, ap, ap₂, ◌∙◌, arith, add-zero, length-set, length-drop, get_or-set_same, get_or-set_other, get_or-take, get_or-drop, length-take-le, take_all, take-take, take-suc, take-suc-set, take_at, drop_at, ltb-true, ltb-false}
use Rattle.std.proofs.lemmas.List.{drop-append-le}
use Rattle.std.proofs.lemmas.List.Edits.{sets, sets-eq}
use Rattle.std.proofs.Math.Seq.{paste, length_paste_head}
use Rattle.step.specs.declared.Queue.{Queue}
use Rattle.step.specs.State.{no_queue}
use Rattle.run_rings.specs.Code.Rings.{queue_at, queues_from, queues_in, Moves}
use Rattle.run_rings.specs.Laws.Rings.{queue, queue_eq, places, places_before, places_behind, rings_stay}

-- ---- the places of a queue into a ring

sets_before : (pts : List ℕ) (j m : ℕ) (vs : List ℕ) → 64 * j + 64 ≤ m → places (sets pts m vs) j ≡ places pts j
sets_before pts j m [] h = refl
sets_before pts j m (v ∷ vs) h = sets_before (set pts m v) j (suc m) vs (omega arith) ∙ places_before pts j m v h

sets_behind : (pts : List ℕ) (j m : ℕ) (vs : List ℕ) → m + length vs ≤ 64 * j → places (sets pts m vs) j ≡ places pts j
sets_behind pts j m [] h = refl
sets_behind pts j m (v ∷ vs) h = sets_behind (set pts m v) j (suc m) vs (omega arith) ∙ places_behind pts j m v (omega arith)

paste_sets : (pts : List ℕ) (at : ℕ) (s : List ℕ) → at + 64 ≤ length pts → length s ≡ 64 → paste pts at s 64 ≡ sets pts at (take 64 s)
paste_sets pts at s h e =
    let l : length (take 64 s) ≡ 64 = length-take-le 64 s (omega arith) in
    ap (λ (n : ℕ). take at pts ++ take 64 s ++ drop (at + n) pts) (sym l) ∙ sym (sets-eq (take 64 s) pts at (omega arith))

laid_other : (pts : List ℕ) (j k : ℕ) (s : List ℕ) → j ≢ k → 64 * k + 64 ≤ length pts → length s ≡ 64 → places (paste pts (64 * k) s 64) j ≡ places pts j
laid_other pts j k s n h e = ap (λ (x : List ℕ). places x j) (paste_sets pts (64 * k) s h e) ∙ go (ltb j k) refl
  where
    go : (b : Bool) → ltb j k ≡ b → places (sets pts (64 * k) (take 64 s)) j ≡ places pts j
    go true q = sets_before pts j (64 * k) (take 64 s) (omega (arith, ltb-true j k q))
    go false q = sets_behind pts j (64 * k) (take 64 s) (omega (arith, ltb-false j k q, n, length-take-le 64 s (omega (arith, e))))

laid_mine : (pts : List ℕ) (k : ℕ) (s : List ℕ) → 64 * k + 64 ≤ length pts → length s ≡ 64 → places (paste pts (64 * k) s 64) k ≡ s
laid_mine pts k s h e =
    ap (take 64)
    (drop-append-le (64 * k) (take (64 * k) pts ++ take 64 s) (drop (64 * k + 64) pts)
    (omega (arith, length_paste_head pts (64 * k) s 64 (omega arith) (omega arith)))
    ∙ ap (λ (x : List ℕ). x ++ drop (64 * k + 64) pts) (drop_at (take (64 * k) pts) (take 64 s) (64 * k) (length-take-le (64 * k) pts (omega arith))))
    ∙ take_at (take 64 s) (drop (64 * k + 64) pts) 64 (length-take-le 64 s (omega arith))
    ∙ take_all 64 s (omega arith)

-- a queue into ring k
pub put_moves : (pts heads lens : List ℕ) (k : ℕ) (q : Queue) → 64 * k + 64 ≤ length pts → k < length heads → k < length lens → length q.pts ≡ 64
    → (x : List ℕ) → x ≡ paste pts (64 * k) q.pts 64
    → Moves k (λ _. q) pts heads lens x (set heads k q.head) (set lens k q.len)
unfolding queue_at
put_moves pts heads lens k q h l m e x i =
    record {
      mine =
          queue_eq (places x k) q.pts (get_or (set heads k q.head) k 0) q.head (get_or (set lens k q.len) k 0) q.len
          (ap (λ (x : List ℕ). places x k) i ∙ laid_mine pts k q.pts h e)
          (get_or-set_same heads k q.head 0 l) (get_or-set_same lens k q.len 0 m);
      others = λ j d.
          queue_eq (places x j) (places pts j) (get_or (set heads k q.head) j 0) (get_or heads j 0) (get_or (set lens k q.len) j 0) (get_or lens j 0)
          (ap (λ (x : List ℕ). places x j) i ∙ laid_other pts j k q.pts d h e)
          (get_or-set_other heads k j q.head 0 d) (get_or-set_other lens k j q.len 0 d);
    }

-- ---- all queues into rings

queues_snoc : (n k : ℕ) (a b c : List ℕ) → queues_from (suc n) k a b c ≡ queues_from n k a b c ++ (queue_at a b c (k + n) ∷ [])
unfolding queues_from
queues_snoc zero k a b c = ap {B = List Queue} (λ x. queue_at a b c x ∷ []) (sym (add-zero k))
queues_snoc (suc n) k a b c =
    let e : suc k + n ≡ k + suc n = omega arith in
    ap (λ (l : List Queue). queue_at a b c k ∷ l)
    (queues_snoc n (suc k) a b c ∙ ap (λ (x : ℕ). queues_from n (suc k) a b c ++ (queue_at a b c x ∷ [])) e)

pub rings_start : (qs : List Queue) (a b c : List ℕ) → queues_from 0 0 a b c ≡ take 0 qs
unfolding queues_from
rings_start qs a b c = refl

-- the first i queues are in the rings, and the next one comes
pub rings_go : (qs : List Queue) (i : ℕ) (a b c a' b' c' : List ℕ) → i < length qs → Moves i (λ _. get_or qs i no_queue) a b c a' b' c'
    → queues_from i 0 a b c ≡ take i qs → queues_from (i + 1) 0 a' b' c' ≡ take (i + 1) qs
rings_go qs i a b c a' b' c' h m e =
    let s : suc i ≡ i + 1 = omega arith in
    let t : 0 + i ≡ i = omega arith in
    ap (λ (n : ℕ). queues_from n 0 a' b' c') (sym s)
    ∙ queues_snoc i 0 a' b' c'
    ∙ ap₂ {C = List Queue} (λ x y. x ++ (y ∷ []))
    (rings_stay i 0 a b c a' b' c' (λ j l r. m.others j (λ q. omega (arith, q, r))) ∙ e)
    (ap (queue_at a' b' c') t ∙ m.mine)
    ∙ sym (take-suc qs i no_queue h)
    ∙ ap (λ (n : ℕ). take n qs) s

pub rings_full : (qs : List Queue) (i : ℕ) (a b c : List ℕ) → length qs ≡ 16 → i ≡ 16 → queues_from i 0 a b c ≡ take i qs → queues_in a b c ≡ qs
unfolding queues_in
rings_full qs i a b c h e s =
    ap (λ (n : ℕ). queues_from n 0 a b c) (sym e) ∙ s ∙ take_all i qs (omega arith)

-- the queues of the first i rings are taken, and the next one comes
pub queues_go : (qs : List Queue) (i : ℕ) (a b c : List ℕ) (q : Queue) → i < length qs → q ≡ queue_at a b c i → take i qs ≡ queues_from i 0 a b c
    → take (i + 1) (set qs i q) ≡ queues_from (i + 1) 0 a b c
queues_go qs i a b c q h p e =
    let s : suc i ≡ i + 1 = omega arith in
    let t : i ≡ 0 + i = omega arith in
    ap (λ (n : ℕ). take n (set qs i q)) (sym s)
    ∙ take-suc-set qs i q h
    ∙ ap₂ {C = List Queue} (λ x y. x ++ (y ∷ [])) e (p ∙ ap (queue_at a b c) t)
    ∙ sym (queues_snoc i 0 a b c)
    ∙ ap (λ (n : ℕ). queues_from n 0 a b c) s

pub queues_full : (qs : List Queue) (i : ℕ) (a b c : List ℕ) → length qs ≡ 16 → i ≡ 16 → take i qs ≡ queues_from i 0 a b c → qs ≡ queues_in a b c
unfolding queues_in
queues_full qs i a b c h e s = sym (take_all i qs (omega arith)) ∙ s ∙ ap (λ (n : ℕ). queues_from n 0 a b c) e

-- ---- a ring into a queue

-- the first j places are copied
pub record Taking (pts heads lens : List ℕ) (k : ℕ) (q : Queue) (j : ℕ) : Type 0 where
  pub upto : j ≤ 64
  pub full : length q.pts ≡ 64
  pub same : take j q.pts ≡ take j (places pts k)
  pub head : q.head ≡ get_or heads k 0
  pub len : q.len ≡ get_or lens k 0

pub take_goes : (pts heads lens : List ℕ) (k : ℕ) (q : Queue) (j : ℕ) → 64 * k + 64 ≤ length pts → j < 64 → Taking pts heads lens k q j
    → Taking pts heads lens k (queue (set q.pts j (get_or pts (64 * k + j) 0)) q.head q.len) (j + 1)
take_goes pts heads lens k q j h l t =
    let v = get_or pts (64 * k + j) 0 in
    let s : suc j ≡ j + 1 = omega arith in
    let e : get_or (places pts k) j 0 ≡ v = get_or-take 64 (drop (64 * k) pts) j 0 l ∙ get_or-drop (64 * k) pts j 0 in
    let f : length (places pts k) ≡ 64 = length-take-le 64 (drop (64 * k) pts) (rw (length-drop (64 * k) pts) (omega arith)) in
    record {
      upto = omega arith;
      full = length-set q.pts j v ∙ t.full;
      same =
          ap (λ (n : ℕ). take n (set q.pts j v)) (sym s)
          ∙ take-suc-set q.pts j v (omega (arith, t.full))
          ∙ ap₂ {C = List ℕ} (λ x y. x ++ (y ∷ [])) t.same (sym e)
          ∙ sym (take-suc (places pts k) j 0 (omega (arith, f)))
          ∙ ap (λ (n : ℕ). take n (places pts k)) s;
      head = t.head;
      len = t.len;
    }

pub take_done : (pts heads lens : List ℕ) (k : ℕ) (q : Queue) (j : ℕ) → 64 ≤ j → Taking pts heads lens k q j → q ≡ queue_at pts heads lens k
unfolding queue_at
take_done pts heads lens k q j h t =
    let e : j ≡ 64 = omega (arith, t.upto) in
    queue_eq q.pts (places pts k) q.head (get_or heads k 0) q.len (get_or lens k 0)
    (sym (take_all 64 q.pts (omega (arith, t.full)))
    ∙ ap (λ (n : ℕ). take n q.pts) (sym e) ∙ t.same ∙ ap (λ (n : ℕ). take n (places pts k)) e
    ∙ take-take 64 64 (drop (64 * k) pts) (omega arith))
    t.head t.len
