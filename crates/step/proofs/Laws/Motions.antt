-- The queues with their PSWs, in which every PT stands once; and what each motion does to that, to the processes of the queue that moves, and to
-- those of the others.
use Rattle.std.specs.Prelude.{◌≡◌, ◌≢◌, Bool, ℕ, suc, ◌+◌, ◌≤◌, ◌<◌, length, get_or, set, eqb}
use Rattle.std.proofs.Common.{sym, ◌∙◌, subst, arith}
use Rattle.std.proofs.Math.Path.{ap}
use Rattle.std.proofs.Math.Bool.{true, false}
use mathlib.Core.List.{List, [], ◌∷◌, ◌++◌}
use Rattle.std.proofs.Math.ListN.{length-set}
use Rattle.std.proofs.Math.Seq.{get_or-set_same, get_or-set_other}
use Rattle.word.proofs.Laws.Bools.{Eq?, same, differ, eq?}
use Rattle.step.specs.declared.Queue.{Queue}
use Rattle.step.specs.Queues.{occ, hit, list_of, head_of, turned, shifted, joined, live_pts}
use Rattle.step.specs.State.{queue_in, with_queue, no_queue, psws_of, processes_at}
use Rattle.step.specs.Act.{turned_at, left_at, joined_at, passed_to}
use Rattle.step.proofs.Laws.Occurrences.{occ_rot, occ_snoc, occ_cons, hit_same, hit_differ, rot, rest, first, head_to, Distinct, Heads, Free, length_once, occ_rest, psws_set, psws_rot, psws_rest, psws_first, psws_head, psws_other, psws_append, psws_one}
use Rattle.step.proofs.Laws.Queues.{Shaped, heads, turned_list, shifted_list, joined_list, turned_shaped, shifted_shaped, joined_shaped, turned_len, shifted_len, joined_len, occ_set, occ_get, occ_two, length_live, len_get}

pub record Tidy (psw : List ℕ) (qs : List Queue) : Type 0 where
  pub wide : length psw ≡ 64
  pub sixteen : length qs ≡ 16
  pub shaped : (k : ℕ) → k < 16 → Shaped (queue_in qs k)
  pub once : (p : ℕ) → occ p (live_pts qs) ≤ 1
  pub small : (p : ℕ) → 64 ≤ p → occ p (live_pts qs) ≡ 0

-- ---- another queue for the one with number k

module _ (qs : List Queue) (k : ℕ) (x : Queue) where
  at_same : k < length qs → queue_in (with_queue qs k x) k ≡ x
  unfolding queue_in with_queue
  at_same h = get_or-set_same qs k x no_queue h

  at_other : (j : ℕ) → j ≢ k → queue_in (with_queue qs k x) j ≡ queue_in qs j
  unfolding queue_in with_queue
  at_other j n = get_or-set_other qs k j x no_queue n

  occ_with : (p : ℕ) → k < length qs → occ p (live_pts (with_queue qs k x)) + occ p (list_of (queue_in qs k)) ≡ occ p (live_pts qs) + occ p (list_of x)
  unfolding queue_in with_queue
  occ_with p h = occ_set p qs k x h

  length_with : k < length qs → length (live_pts (with_queue qs k x)) + (queue_in qs k).len ≡ length (live_pts qs) + x.len
  unfolding queue_in with_queue
  length_with h = length_live qs k x h

  length_with_queue : length (with_queue qs k x) ≡ length qs
  unfolding with_queue
  length_with_queue = length-set qs k x

  tidy_with : (psw : List ℕ) → Tidy psw qs → k < 16 → Shaped x → ((p : ℕ) → occ p (live_pts (with_queue qs k x)) ≤ 1)
      → ((p : ℕ) → 64 ≤ p → occ p (live_pts (with_queue qs k x)) ≡ 0) → Tidy psw (with_queue qs k x)
  tidy_with psw t h s once small = record {
    wide = t.wide;
    sixteen = length_with_queue ∙ t.sixteen;
    shaped = λ j l. go j l (eqb j k) (eq? j k);
    once = once;
    small = small;
  }
    where
      go : (j : ℕ) → j < 16 → (b : Bool) → Eq? j k b → Shaped (queue_in (with_queue qs k x) j)
      go j l true (same e) = subst (λ (i : ℕ). Shaped (queue_in (with_queue qs k x) i)) (sym e) (subst Shaped (sym (at_same (omega (arith, h, t.sixteen)))) s)
      go j l false (differ n) = subst Shaped (sym (at_other j n)) (t.shaped j l)

  -- the processes of the queue that moved, and of another
  own_with : (psw : List ℕ) → k < length qs → processes_at psw (with_queue qs k x) k ≡ psws_of psw (list_of x)
  unfolding processes_at
  own_with psw h = ap (λ (q : Queue). psws_of psw (list_of q)) (at_same h)

  other_with : (psw : List ℕ) (j : ℕ) → j ≢ k → processes_at psw (with_queue qs k x) j ≡ processes_at psw qs j
  unfolding processes_at
  other_with psw j n = ap (λ (q : Queue). psws_of psw (list_of q)) (at_other j n)

module _ {psw : List ℕ} {qs : List Queue} (tidy : Tidy psw qs) (k : ℕ) (high : k < 16) where
  inside : k < length qs
  inside = omega (arith, high, tidy.sixteen)

  pub le : (p : ℕ) → occ p (list_of (queue_in qs k)) ≤ occ p (live_pts qs)
  unfolding queue_in
  le p = occ_get p qs k inside

  two : (j : ℕ) → j < 16 → j ≢ k → (p : ℕ) → occ p (list_of (queue_in qs k)) + occ p (list_of (queue_in qs j)) ≤ occ p (live_pts qs)
  unfolding queue_in
  two j h n p = occ_two p qs k j (λ e. n (sym e)) inside (omega (arith, h, tidy.sixteen))

  distinct : Distinct psw (list_of (queue_in qs k))
  distinct = record { once = λ p. omega (arith, tidy.once p, le p); inside = λ p h. omega (arith, tidy.small p (omega (arith, tidy.wide)), le p) }

  -- ---- the head goes to the tail

  pub turn_occ : (p : ℕ) → occ p (live_pts (turned_at qs k)) ≡ occ p (live_pts qs)
  unfolding turned_at
  turn_occ p =
      omega (arith, occ_with qs k (turned (queue_in qs k)) p inside, ap (occ p) (turned_list (queue_in qs k) (tidy.shaped k high)), occ_rot p (list_of (queue_in qs k)))

  pub turn_length : length (live_pts (turned_at qs k)) ≡ length (live_pts qs)
  unfolding turned_at
  turn_length = omega (arith, length_with qs k (turned (queue_in qs k)) inside, turned_len (queue_in qs k))

  pub turn_tidy : Tidy psw (turned_at qs k)
  unfolding turned_at
  turn_tidy =
      tidy_with qs k (turned (queue_in qs k)) psw tidy high (turned_shaped (queue_in qs k) (tidy.shaped k high))
      (λ p. omega (arith, turn_occ p, tidy.once p)) (λ p h. turn_occ p ∙ tidy.small p h)

  pub turn_own : processes_at psw (turned_at qs k) k ≡ rot (processes_at psw qs k)
  unfolding turned_at processes_at
  turn_own =
      own_with qs k (turned (queue_in qs k)) psw inside
      ∙ ap (psws_of psw) (turned_list (queue_in qs k) (tidy.shaped k high)) ∙ psws_rot psw (list_of (queue_in qs k))

  -- ---- a PT that is free joins

  -- a PT is free: fewer than 64 processes live
  pub few : (p : ℕ) → Free p 64 (live_pts qs) → length (live_pts qs) < 64
  few p f =
      let n : length (p ∷ live_pts qs) ≤ 64 = length_once 64 (p ∷ live_pts qs) (λ x. once x (eqb x p) (eq? x p)) (λ x h. omega (arith, occ_cons x p (live_pts qs), hit_differ x p (λ e. omega (arith, e, h, f.small)), tidy.small x h)) in
      omega (arith, n)
    where
      once : (x : ℕ) (b : Bool) → Eq? x p b → occ x (p ∷ live_pts qs) ≤ 1
      once x true (same e) = let z : occ x (live_pts qs) ≡ 0 = rw e f.none_such in let o : hit x p ≡ 1 = rw (← e) (hit_same x) in omega (arith, occ_cons x p (live_pts qs), z, o)
      once x false (differ n) = omega (arith, occ_cons x p (live_pts qs), hit_differ x p n, tidy.once x)

  fits : (p : ℕ) → Free p 64 (live_pts qs) → (queue_in qs k).len < 64
  unfolding queue_in
  fits p f = omega (arith, few p f, len_get qs k inside)

  pub join_occ : (p : ℕ) → Free p 64 (live_pts qs) → (x : ℕ) → occ x (live_pts (joined_at qs k p)) ≡ occ x (live_pts qs) + hit x p
  unfolding joined_at
  join_occ p f x =
      omega (arith, occ_with qs k (joined (queue_in qs k) p) x inside, ap (occ x) (joined_list (queue_in qs k) p (tidy.shaped k high) (fits p f)), occ_snoc x p (list_of (queue_in qs k)))

  pub join_length : (p : ℕ) → Free p 64 (live_pts qs) → length (live_pts (joined_at qs k p)) ≡ suc (length (live_pts qs))
  unfolding joined_at
  join_length p f = omega (arith, length_with qs k (joined (queue_in qs k) p) inside, joined_len (queue_in qs k) p (fits p f))

  pub join_tidy : (p : ℕ) → Free p 64 (live_pts qs) → Tidy psw (joined_at qs k p)
  unfolding joined_at
  join_tidy p f =
      tidy_with qs k (joined (queue_in qs k) p) psw tidy high (joined_shaped (queue_in qs k) p (tidy.shaped k high))
      (λ x. go x (eqb x p) (eq? x p))
      (λ x h. join_occ p f x ∙ omega (arith, tidy.small x h, hit_differ x p (λ e. omega (arith, e, h, f.small))))
    where
      go : (x : ℕ) (b : Bool) → Eq? x p b → occ x (live_pts (joined_at qs k p)) ≤ 1
      go x true (same e) = let z : occ x (live_pts qs) ≡ 0 = rw e f.none_such in let o : hit x p ≡ 1 = rw (← e) (hit_same x) in omega (arith, join_occ p f x, z, o)
      go x false (differ n) = omega (arith, join_occ p f x, hit_differ x p n, tidy.once x)

  pub join_own : (p : ℕ) → Free p 64 (live_pts qs) → processes_at psw (joined_at qs k p) k ≡ processes_at psw qs k ++ (get_or psw p 0 ∷ [])
  unfolding joined_at processes_at
  join_own p f =
      own_with qs k (joined (queue_in qs k) p) psw inside
      ∙ ap (psws_of psw) (joined_list (queue_in qs k) p (tidy.shaped k high) (fits p f)) ∙ psws_append psw (list_of (queue_in qs k)) (p ∷ [])
      ∙ ap (λ (l : List ℕ). psws_of psw (list_of (queue_in qs k)) ++ l) (psws_one psw p)

  -- ---- the head leaves, or gets another PSW

  module _ (nonempty : (queue_in qs k).len ≢ 0) where
    front : Heads (head_of (queue_in qs k)) (list_of (queue_in qs k))
    front = heads (queue_in qs k) nonempty

    pub leave_occ : (p : ℕ) → occ p (live_pts (left_at qs k)) + hit p (head_of (queue_in qs k)) ≡ occ p (live_pts qs)
    unfolding left_at
    leave_occ p =
        omega (arith, occ_with qs k (shifted (queue_in qs k)) p inside, ap (occ p) (shifted_list (queue_in qs k)), occ_rest p (head_of (queue_in qs k)) (list_of (queue_in qs k)) front)

    pub leave_length : suc (length (live_pts (left_at qs k))) ≡ length (live_pts qs)
    unfolding left_at
    leave_length = omega (arith, length_with qs k (shifted (queue_in qs k)) inside, shifted_len (queue_in qs k), nonempty)

    pub leave_tidy : Tidy psw (left_at qs k)
    unfolding left_at
    leave_tidy =
        tidy_with qs k (shifted (queue_in qs k)) psw tidy high (shifted_shaped (queue_in qs k) (tidy.shaped k high))
        (λ p. omega (arith, leave_occ p, tidy.once p)) (λ p h. omega (arith, leave_occ p, tidy.small p h))

    -- the PT that left is free
    pub leave_free : Free (head_of (queue_in qs k)) 64 (live_pts (left_at qs k))
    leave_free =
        let h = head_of (queue_in qs k) in
        record { none_such = omega (arith, leave_occ h, tidy.once h, hit_same h); small = head_small (eqb (occ h (live_pts qs)) 0) (eq? (occ h (live_pts qs)) 0) }
      where
        head_small : (b : Bool) → Eq? (occ (head_of (queue_in qs k)) (live_pts qs)) 0 b → head_of (queue_in qs k) < 64
        head_small true (same e) = absurd (omega (arith, e, leave_occ (head_of (queue_in qs k)), hit_same (head_of (queue_in qs k))))
        head_small false (differ n) = below_64 (λ h. n (tidy.small (head_of (queue_in qs k)) h))
          where
            below_64 : (64 ≤ head_of (queue_in qs k) → ⊥) → head_of (queue_in qs k) < 64
            below_64 f = omega (arith, f)

    pub leave_own : processes_at psw (left_at qs k) k ≡ rest (processes_at psw qs k)
    unfolding left_at processes_at
    leave_own =
        own_with qs k (shifted (queue_in qs k)) psw inside ∙ ap (psws_of psw) (shifted_list (queue_in qs k)) ∙ psws_rest psw (list_of (queue_in qs k))

    -- the PSW of the head
    head_psw : (get_or psw (head_of (queue_in qs k)) 0 ∷ []) ≡ first (processes_at psw qs k)
    unfolding processes_at
    head_psw = psws_first psw (head_of (queue_in qs k)) (list_of (queue_in qs k)) front

    pub store_own : (v : ℕ) → processes_at (set psw (head_of (queue_in qs k)) v) qs k ≡ head_to v (processes_at psw qs k)
    unfolding processes_at
    store_own v = psws_head psw (list_of (queue_in qs k)) (head_of (queue_in qs k)) v front distinct

    pub store_other : (v j : ℕ) → j < 16 → j ≢ k → processes_at (set psw (head_of (queue_in qs k)) v) qs j ≡ processes_at psw qs j
    unfolding processes_at
    store_other v j h n =
        psws_other psw (list_of (queue_in qs k)) (list_of (queue_in qs j)) (head_of (queue_in qs k)) v front (λ p. omega (arith, two j h n p, tidy.once p))

-- any PSW may be stored
pub store_tidy : (psw : List ℕ) (qs : List Queue) (p v : ℕ) → Tidy psw qs → Tidy (set psw p v) qs
store_tidy psw qs p v t = record { wide = length-set psw p v ∙ t.wide; sixteen = t.sixteen; shaped = t.shaped; once = t.once; small = t.small }

-- a PSW stored at a PT that is free
pub store_free : (psw : List ℕ) (qs : List Queue) (p v k : ℕ) → Tidy psw qs → k < 16 → Free p 64 (live_pts qs) → processes_at (set psw p v) qs k ≡ processes_at psw qs k
unfolding processes_at
store_free psw qs p v k t h f = psws_set psw (list_of (queue_in qs k)) p v (omega (arith, le t k h p, f.none_such))

-- the queues that stay
pub turn_other : (psw : List ℕ) (qs : List Queue) (k j : ℕ) → j ≢ k → processes_at psw (turned_at qs k) j ≡ processes_at psw qs j
unfolding turned_at
turn_other psw qs k j n = other_with qs k (turned (queue_in qs k)) psw j n

pub leave_other : (psw : List ℕ) (qs : List Queue) (k j : ℕ) → j ≢ k → processes_at psw (left_at qs k) j ≡ processes_at psw qs j
unfolding left_at
leave_other psw qs k j n = other_with qs k (shifted (queue_in qs k)) psw j n

pub join_other : (psw : List ℕ) (qs : List Queue) (k p j : ℕ) → j ≢ k → processes_at psw (joined_at qs k p) j ≡ processes_at psw qs j
unfolding joined_at
join_other psw qs k p j n = other_with qs k (joined (queue_in qs k) p) psw j n

-- ---- the head of one queue passes to another: it leaves, then it joins

module _ {psw : List ℕ} {qs : List Queue} (tidy : Tidy psw qs) (j k : ℕ) (from : j < 16) (to : k < 16) (apart : j ≢ k) (nonempty : (queue_in qs j).len ≢ 0) where
  left : Tidy psw (left_at qs j)
  left = leave_tidy tidy j from nonempty

  free : Free (head_of (queue_in qs j)) 64 (live_pts (left_at qs j))
  free = leave_free tidy j from nonempty

  pub pass_occ : (p : ℕ) → occ p (live_pts (passed_to qs j k)) ≡ occ p (live_pts qs)
  unfolding passed_to
  pass_occ p = join_occ left k to (head_of (queue_in qs j)) free p ∙ leave_occ tidy j from nonempty p

  pub pass_length : length (live_pts (passed_to qs j k)) ≡ length (live_pts qs)
  unfolding passed_to
  pass_length = join_length left k to (head_of (queue_in qs j)) free ∙ leave_length tidy j from nonempty

  pub pass_tidy : Tidy psw (passed_to qs j k)
  unfolding passed_to
  pass_tidy = join_tidy left k to (head_of (queue_in qs j)) free

  pub pass_from : processes_at psw (passed_to qs j k) j ≡ rest (processes_at psw qs j)
  unfolding passed_to
  pass_from = join_other psw (left_at qs j) k (head_of (queue_in qs j)) j apart ∙ leave_own tidy j from nonempty

  pub pass_to : processes_at psw (passed_to qs j k) k ≡ processes_at psw qs k ++ first (processes_at psw qs j)
  unfolding passed_to
  pass_to =
      join_own left k to (head_of (queue_in qs j)) free
      ∙ ap (λ (l : List ℕ). l ++ (get_or psw (head_of (queue_in qs j)) 0 ∷ [])) (leave_other psw qs j k (λ e. apart (sym e)))
      ∙ ap (λ (l : List ℕ). processes_at psw qs k ++ l) (head_psw tidy j from nonempty)

  pub pass_other : (i : ℕ) → i ≢ j → i ≢ k → processes_at psw (passed_to qs j k) i ≡ processes_at psw qs i
  unfolding passed_to
  pass_other i m n = join_other psw (left_at qs j) k (head_of (queue_in qs j)) i n ∙ leave_other psw qs j i m
