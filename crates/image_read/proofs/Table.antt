-- The loops over the processes: PSWs from the last to the first, and the PTs of a queue in their order.
use Prim.Native.Nat.{ℕ, zero, suc, ◌+◌, ◌-◌, ◌*◌, ◌≤◌, ◌<◌}
use mathlib.Core.Path.{◌≡◌, sym, ap, ap₂, ◌∙◌}
use mathlib.Core.Bool.{cond}
use mathlib.Core.List.{List, [], ◌∷◌, ◌++◌, append_assoc, append-nil}
use native.Mathlib.Numerals.{add-one}
use native.Mathlib.Omega.{arith}
use borrow.Author.Tests.{eq-eqb, ne_eqb}
use lib.Dec.{eqb}
use lib.ListN.{length, get_or, take, drop, set, replicate, length-set, take-append-drop}
use lib.Seq.{take-suc-set, drop-set-lt, drop-drop, length-take-le}
use Rattle.step.specs.declared.Queue.{Queue}
use Rattle.step.specs.State.{no_queue}
use Rattle.image.specs.declared.Process.{Process}
use Rattle.image.specs.Image.{queue_of_byte, pts_of, queue_of, queues_of, psw_table, process_length}
use Rattle.image.proofs.Laws.Table.{length_pts_of}
use Rattle.image_bytes.specs.Code.Reading.{field_at}
use Rattle.image_bytes.specs.Laws.Listed.{listed_none, length_listed}
use Rattle.image_check.specs.Code.Places.{process_at, processes_at}
use Rattle.std.proofs.lemmas.List.{drop-replicate}
use Rattle.image_read.proofs.Listed.{listed_from}

processes_from : (s : List ℕ) (m at k : ℕ) → k < m
    → processes_at (m - k) (at + process_length * k) s ≡ process_at (at + process_length * k) s ∷ processes_at (m - (k + 1)) (at + process_length * (k + 1)) s
unfolding processes_at
processes_from s m at k h = listed_from process_length (λ q. process_at q s) m at k h

-- of m processes none is left
processes_none : (s : List ℕ) (m p : ℕ) → processes_at (m - m) p s ≡ []
unfolding processes_at
processes_none s m p = listed_none process_length (λ q. process_at q s) (m - m) p (omega arith)

-- ---- PSWs: those of the processes from the kth of m on are in l

abbrev pub Setting : (s : List ℕ) (at m : ℕ) (l : List ℕ) (k : ℕ) → Type 0
Setting s at m l k = l ≡ psw_table (processes_at (m - k) (at + process_length * k) s)

module _ (s : List ℕ) (at m : ℕ) where
  pub psw_start : Setting s at m (replicate 64 0) m
  unfolding psw_table
  psw_start = rw processes_none

  pub psw_step : {l : List ℕ} {pt v : ℕ} (k : ℕ) → k < m → pt ≡ field_at 1 (at + process_length * k) s → v ≡ field_at 8 (at + process_length * k + 2) s
      → Setting s at m l (k + 1) → Setting s at m (set l pt v) k
  unfolding psw_table process_at
  psw_step k h e f z = rw (processes_from s m at k h, e, f, z)

-- ---- the queue with number t

-- pts has the PTs of the first i of m processes, and then zeros
pub record Queueing (s : List ℕ) (at m t : ℕ) (pts : List ℕ) (len i : ℕ) : Type 0 where
  pub most : len ≤ i
  pub size : length pts ≡ 64
  pub zeros : drop len pts ≡ replicate (64 - len) 0
  pub all : take len pts ++ pts_of t (processes_at (m - i) (at + process_length * i) s) ≡ pts_of t (processes_at m at s)

module _ (s : List ℕ) (at m t : ℕ) (pts : List ℕ) (len i : ℕ) (q : Queueing s at m t pts len i) (few : m ≤ 64) where
  module _ (more : i < m) where
    abbrev p : ℕ
    p = at + process_length * i

    abbrev rest : List ℕ
    rest = pts_of t (processes_at (m - (i + 1)) (at + process_length * (i + 1)) s)

    next : pts_of t (processes_at (m - i) p s) ≡ cond (eqb (queue_of_byte (field_at 1 (p + 1) s)) t) (field_at 1 p s ∷ rest) rest
    unfolding pts_of process_at
    next = ap (pts_of t) (processes_from s m at i more)

    pub queue_taken : {v : ℕ} → queue_of_byte (field_at 1 (p + 1) s) ≡ t → v ≡ field_at 1 p s → Queueing s at m t (set pts len v) (len + 1) (i + 1)
    queue_taken {v} e f =
        let n = rw (eq-eqb (queue_of_byte (field_at 1 (p + 1) s)) t e) at next in
        let c : 64 - len - 1 ≡ 64 - suc len = omega arith in
        let d : drop (suc len) pts ≡ replicate (64 - suc len) 0 = rw add-one at (sym (drop-drop 1 len pts)) ∙ ap (drop 1) q.zeros ∙ drop-replicate 1 (64 - len) 0 ∙ rw c in
        record {
          most = omega (arith, q.most);
          size = length-set pts len v ∙ q.size;
          zeros = rw (add-one len, drop-set-lt (suc len) pts len v (omega arith)) d;
          all = rw (f, add-one len, take-suc-set pts len (field_at 1 p s) (omega (arith, q.size, q.most)), append_assoc) (rw n at q.all);
        }

    pub queue_skipped : (queue_of_byte (field_at 1 (p + 1) s) ≡ t → ⊥) → Queueing s at m t pts len (i + 1)
    queue_skipped e =
        let n = rw (ne_eqb (queue_of_byte (field_at 1 (p + 1) s)) t e) at next in
        record { most = omega (arith, q.most); size = q.size; zeros = q.zeros; all = rw n at q.all }

  pub queue_done : i ≡ m → ◌≡◌ {A = Queue} (record { pts = pts; head = 0; len = len }) (queue_of (pts_of t (processes_at m at s)))
  unfolding queue_of pts_of
  queue_done d =
      let none : pts_of t (processes_at (m - i) (at + process_length * i) s) ≡ [] = rw d (ap (pts_of t) (processes_none s m (at + process_length * m))) in
      let e : take len pts ≡ pts_of t (processes_at m at s) = sym (append-nil (take len pts)) ∙ rw none at q.all in
      let n : len ≡ length (pts_of t (processes_at m at s)) = sym (length-take-le len pts (omega (arith, q.size, q.most, few))) ∙ ap length e in
      let l : pts ≡ pts_of t (processes_at m at s) ++ replicate (64 - len) 0 = sym (take-append-drop len pts) ∙ rw (e, q.zeros) in
      rw (← n) (ap (λ (x : List ℕ). record { pts = x; head = 0; len = len }) l)

-- ---- all queues

queues_snoc : (n k : ℕ) (ps : List Process) → queues_of (suc n) k ps ≡ queues_of n k ps ++ (queue_of (pts_of (k + n) ps) ∷ [])
unfolding queues_of
queues_snoc zero k ps = let e : k ≡ k + 0 = omega arith in ap (λ (i : ℕ). queue_of (pts_of i ps) ∷ []) e
queues_snoc (suc n) k ps =
    let e : suc k + n ≡ k + suc n = omega arith in
    ap (λ (l : List Queue). queue_of (pts_of k ps) ∷ l) (queues_snoc n (suc k) ps ∙ ap (λ (i : ℕ). queues_of n (suc k) ps ++ (queue_of (pts_of i ps) ∷ [])) e)

pub queues_go : (qs : List Queue) (k : ℕ) (ps : List Process) (x : Queue) → k < length qs → x ≡ queue_of (pts_of k ps) → take k qs ≡ queues_of k 0 ps
    → take (k + 1) (set qs k x) ≡ queues_of (k + 1) 0 ps
queues_go qs k ps x h e i =
    let z : 0 + k ≡ k = omega arith in
    rw (add-one k)
    (take-suc-set qs k x h ∙ ap₂ {C = List Queue} (λ l q. l ++ (q ∷ [])) i (e ∙ ap (λ (j : ℕ). queue_of (pts_of j ps)) (sym z)) ∙ sym (queues_snoc k 0 ps))

-- no queue is longer than there are processes
pub queues_short : (n k : ℕ) (ps : List Process) (i : ℕ) → (get_or (queues_of n k ps) i no_queue).len ≤ length ps
unfolding queues_of queue_of
queues_short zero k ps i = omega arith
queues_short (suc n) k ps zero = length_pts_of k ps
queues_short (suc n) k ps (suc i) = queues_short n (suc k) ps i

pub queues_fit : (qs : List Queue) (m at : ℕ) (s : List ℕ) → qs ≡ queues_of 16 0 (processes_at m at s) → m ≤ 64 → (k : ℕ) → (get_or qs k no_queue).len ≤ 64
unfolding processes_at
queues_fit qs m at s e h k =
    let n : length (processes_at m at s) ≡ m = length_listed process_length (λ p. process_at p s) m at in
    rw e (omega (arith, queues_short 16 0 (processes_at m at s) k, n, h))
