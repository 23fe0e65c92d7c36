-- The process table of a list of processes: its queues, the PTs of a task, and its lengths.
use Rattle.std.specs.Prelude.{ℕ, zero, suc, ◌+◌, ◌-◌, ◌*◌, ◌/◌, ◌%◌, ◌≤◌, ◌<◌, ◌≡◌, refl, ◌≢◌, Bool, true, false, cond, List, [], ◌∷◌, ◌++◌, map, length, get_or, take, drop, replicate, eqb}
use Rattle.std.proofs.Common.{sym, ap, ◌∙◌, arith, length-append, length-set, drop-cons, eq-eqb, ne_eqb, ltb-true, lt-ltb}
use Rattle.std.proofs.lemmas.List.{length-replicate}
use Rattle.std.proofs.Math.Seq.{take-append_seam}
use Rattle.word.proofs.Laws.Bools.{and_left, and_right, clash}
use Rattle.word.proofs.Laws.Conjunctions.{both}
use Rattle.window.specs.declared.Row.{Row}
use Rattle.step.specs.declared.Queue.{Queue}
use Rattle.step.specs.Queues.{ring, list_of}
use Rattle.step.specs.Soundness.{every, rows_sound, may_hold}
use Rattle.step.proofs.Laws.Sound.{has_row_range}
use Rattle.image.specs.declared.Process.{Process}
use Rattle.image.specs.Image.{queue_of_byte, byte_of_queue, byte_sound, process_queue, pts_of, queue_of, queues_of, psw_table}

-- ---- queues

-- each queue has its array of 64
abbrev pub places_full : List Queue → Bool
places_full qs = every (λ n. eqb n 64) (map (λ (q : Queue). length q.pts) qs)

-- a ring that does not reach the end of its array
pub ring_straight : (a : List ℕ) (h n : ℕ) → h + n ≤ 64 → h + n ≤ length a → ring a h n ≡ take n (drop h a)
unfolding ring
ring_straight a h zero k l = refl
ring_straight a h (suc n) k l =
    let m : h % 64 ≡ h = omega arith in
    let c : drop h a ≡ get_or a h 0 ∷ drop (suc h) a = drop-cons a h 0 (omega arith) in
    rw (m, c) (ap (λ (xs : List ℕ). get_or a h 0 ∷ xs) (ring_straight a (suc h) n (omega arith) (omega arith)))

pub length_queue_of : (pts : List ℕ) → length pts ≤ 64 → length (queue_of pts).pts ≡ 64
unfolding queue_of
length_queue_of pts h = rw (length-append, length-replicate) (omega arith)

-- a queue holds the PTs that it was made of
pub list_of_queue_of : (pts : List ℕ) → length pts ≤ 64 → list_of (queue_of pts) ≡ pts
unfolding list_of queue_of
list_of_queue_of pts h =
    ring_straight (pts ++ replicate (64 - length pts) 0) 0 (length pts) (omega arith) (rw length-append (omega arith))
    ∙ take-append_seam pts (replicate (64 - length pts) 0)

pub length_pts_of : (k : ℕ) (ps : List Process) → length (pts_of k ps) ≤ length ps
unfolding pts_of
length_pts_of k [] = omega arith
length_pts_of k (p ∷ ps) = go (eqb (process_queue p) k) (length_pts_of k ps)
  where
    go : (b : Bool) → length (pts_of k ps) ≤ length ps → length (cond b (p.pt ∷ pts_of k ps) (pts_of k ps)) ≤ suc (length ps)
    go true h = omega arith
    go false h = omega arith

pub length_queues_of : (n k : ℕ) (ps : List Process) → length (queues_of n k ps) ≡ n
unfolding queues_of
length_queues_of zero k ps = refl
length_queues_of (suc n) k ps = ap suc (length_queues_of n (suc k) ps)

-- ---- the PTs of a queue

pub pts_of_same : (k : ℕ) (p : Process) (ps : List Process) → process_queue p ≡ k → pts_of k (p ∷ ps) ≡ p.pt ∷ pts_of k ps
unfolding pts_of
pts_of_same k p ps e = rw (eq-eqb (process_queue p) k e)

pub pts_of_other : (k : ℕ) (p : Process) (ps : List Process) → process_queue p ≢ k → pts_of k (p ∷ ps) ≡ pts_of k ps
unfolding pts_of
pts_of_other k p ps n = rw (ne_eqb (process_queue p) k n)

-- no PT of a queue that fails a test that the queue of each process passes
pub pts_of_none : (test : ℕ → Bool) (k : ℕ) (ps : List Process) → every test (map process_queue ps) ≡ true → test k ≡ false → pts_of k ps ≡ []
unfolding every pts_of
pts_of_none test k [] e n = refl
pts_of_none test k (p ∷ ps) e n =
    let own : test (process_queue p) ≡ true = and_left (test (process_queue p)) (every test (map process_queue ps)) e in
    pts_of_other k p ps (λ q. clash (test k) (ap test (sym q) ∙ own) n) ∙ pts_of_none test k ps (and_right (test (process_queue p)) (every test (map process_queue ps)) e) n

-- ---- task bytes and numbers of queues

pub byte_number : (k : ℕ) → k < 32 → queue_of_byte (byte_of_queue k) ≡ k
unfolding queue_of_byte byte_of_queue
byte_number k h =
    let a : (k / 2 + 16 * (k % 2)) % 16 ≡ k / 2 = omega arith in
    let b : (k / 2 + 16 * (k % 2)) / 16 ≡ k % 2 = omega arith in
    omega (arith, a, b)

pub number_byte : (b : ℕ) → b < 32 → byte_of_queue (queue_of_byte b) ≡ b
unfolding queue_of_byte byte_of_queue
number_byte b h =
    let a : (2 * (b % 16) + b / 16) / 2 ≡ b % 16 = omega arith in
    let c : (2 * (b % 16) + b / 16) % 2 ≡ b / 16 = omega arith in
    omega (arith, a, c)

-- what a task byte names, and which queues may hold processes
pub byte_range : (rows : List Row) → rows_sound 0 rows ≡ true → (b : ℕ) → byte_sound rows b ≡ true → (b < 32) × (queue_of_byte b < 16)
unfolding byte_sound queue_of_byte
byte_range rows o b e =
    let u = both (ltb-true b 32) (λ x. x) e in
    let k = (has_row_range 0 (b % 16) rows o u.1).1 in
    (omega (arith, u.0), omega (arith, u.0, k))

pub byte_holds : (rows : List Row) (k : ℕ) → k < 16 → byte_sound rows (byte_of_queue k) ≡ may_hold rows k
unfolding byte_sound byte_of_queue may_hold
byte_holds rows k h =
    let a : (k / 2 + 16 * (k % 2)) % 16 ≡ k / 2 = omega arith in
    rw (lt-ltb (k / 2 + 16 * (k % 2)) 32 (omega arith), a)

-- ---- PSWs

pub length_psw_table : (ps : List Process) → length (psw_table ps) ≡ 64
unfolding psw_table
length_psw_table [] = length-replicate {A = ℕ} 64 0
length_psw_table (p ∷ ps) = length-set (psw_table ps) p.pt p.psw ∙ length_psw_table ps
