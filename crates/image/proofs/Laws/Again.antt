-- The state that reading gives has the fields of the image.
use Rattle.std.specs.Prelude.{ℕ, zero, suc, ◌+◌, ◌≤◌, ◌<◌, ◌≡◌, refl, Bool, false, length, eqb, leb}
use Rattle.std.proofs.Common.{sym, ap₂, ◌∙◌, arith, get_or-set_same, eqb-true, leb-true, le-leb, ltb-true}
use Rattle.std.proofs.Math.Path.{ap}
use Rattle.std.proofs.Math.Bool.{true}
use mathlib.Core.List.{List, [], ◌∷◌, ◌++◌, map}
use Rattle.std.proofs.Math.ListN.{get_or}
use Rattle.std.proofs.lemmas.Bool.{lt-leb}
use Rattle.window.specs.declared.Cell.{Cell}
use Rattle.window.specs.Memories.{tag_of, word_of}
use Rattle.word.proofs.Laws.Bools.{Eq?, same, differ, eq?, and_right}
use Rattle.word.proofs.Laws.Conjunctions.{also, both}
use Rattle.step.specs.Queues.{occ}
use Rattle.step.specs.State.{psws_of}
use Rattle.step.specs.Soundness.{every, distinct, pt_sound}
use Rattle.step.proofs.Laws.Every.{every_parts}
use Rattle.step.proofs.Laws.Occurrences.{psws_set}
use Rattle.image.specs.declared.Process.{Process}
use Rattle.image.specs.Image.{Image, queue_of_byte, byte_of_queue, byte_sound, process_queue, pt_of, pts_of, queue_of, queues_of, psw_table, memory_of, state_of, processes_in, processes_from, cells_of, image_of}
use Rattle.image.proofs.Laws.Passed.{task_of, psw_of, ascends}
use Rattle.image.proofs.Laws.Accepted.{Accepted}
use Rattle.image.proofs.Laws.Table.{number_byte, byte_range, list_of_queue_of, length_pts_of, pts_of_same, pts_of_other, pts_of_none, length_psw_table}

-- ---- memories

cells_again : (l : List Cell) → cells_of (map tag_of l) (map word_of l) ≡ l
unfolding cells_of
cells_again [] = refl
cells_again (c ∷ l) = ap (λ (m : List Cell). c ∷ m) (cells_again l)

-- ---- PSWs

-- each PT has its process's PSW
psws_again : (ps : List Process) → distinct (map pt_of ps) ≡ true → every pt_sound (map pt_of ps) ≡ true → psws_of (psw_table ps) (map pt_of ps) ≡ map psw_of ps
unfolding psws_of psw_table distinct pt_sound
psws_again [] d e = refl
psws_again (p ∷ ps) d e =
    let u = both (eqb-true (occ p.pt (map pt_of ps)) 0) (λ k. k) d in
    let v = every_parts pt_sound p.pt (map pt_of ps) e in
    ap₂ {A = ℕ} {B = List ℕ} {C = List ℕ} (λ y ys. y ∷ ys)
    (get_or-set_same (psw_table ps) p.pt p.psw 0 (omega (arith, length_psw_table ps, ltb-true p.pt 64 v.0)))
    (psws_set (psw_table ps) (map pt_of ps) p.pt p.psw u.0 ∙ psws_again ps u.1 v.1)

-- ---- processes

-- the processes of n queues from number k on
unfoldable gathered : (psw : List ℕ) (n k : ℕ) → List Process → List Process
gathered psw zero k ps = []
gathered psw (suc n) k ps = processes_in psw k (pts_of k ps) ++ gathered psw n (suc k) ps

processes_from_queues_of : (psw : List ℕ) (n k : ℕ) (ps : List Process) → length ps ≤ 64 → processes_from psw k (queues_of n k ps) ≡ gathered psw n k ps
unfolding processes_from queues_of queue_of gathered
processes_from_queues_of psw zero k ps h = refl
processes_from_queues_of psw (suc n) k ps h =
    ap₂ ◌++◌ (ap (processes_in psw k) (list_of_queue_of (pts_of k ps) (omega (arith, length_pts_of k ps)))) (processes_from_queues_of psw n (suc k) ps h)

gathered_nil : (psw : List ℕ) (n k : ℕ) → gathered psw n k [] ≡ []
unfolding gathered pts_of processes_in
gathered_nil psw zero k = refl
gathered_nil psw (suc n) k = gathered_nil psw n (suc k)

-- a process of a queue before number k
gathered_past : (psw : List ℕ) (n k : ℕ) (p : Process) (ps : List Process) → process_queue p < k → gathered psw n k (p ∷ ps) ≡ gathered psw n k ps
unfolding gathered
gathered_past psw zero k p ps h = refl
gathered_past psw (suc n) k p ps h =
    ap₂ ◌++◌ (ap (processes_in psw k) (pts_of_other k p ps (λ e. omega (arith, e, h)))) (gathered_past psw n (suc k) p ps (omega (arith, h)))

-- queues that ascend are none of them below the first
ascends_every : (a b : ℕ) (l : List ℕ) → a ≤ b → ascends b l ≡ true → every (leb a) l ≡ true
unfolding ascends every
ascends_every a b [] h e = refl
ascends_every a b (t ∷ l) h e =
    let u = both (leb-true b t) (λ k. k) e in
    also (le-leb a t (omega (arith, u.0))) (ascends_every a t l (omega (arith, u.0)) u.1)

-- the process as its queue and its PT give it
abbrev AsHeld : (psw : List ℕ) → Process → Type 0
AsHeld psw p = (get_or psw p.pt 0 ≡ p.psw) × (byte_of_queue (process_queue p) ≡ p.task)

-- a process of one of the queues, before those of its queue and of later ones
gathered_cons : (psw : List ℕ) (n k : ℕ) (p : Process) (ps : List Process) → AsHeld psw p → k ≤ process_queue p → process_queue p < k + n
    → ascends (process_queue p) (map process_queue ps) ≡ true → gathered psw n k (p ∷ ps) ≡ p ∷ gathered psw n k ps
unfolding gathered processes_in
gathered_cons psw zero k p ps held h l a = absurd (omega (arith, h, l))
gathered_cons psw (suc n) k p ps held h l a = go (eqb (process_queue p) k) (eq? (process_queue p) k) (gathered_cons psw n (suc k) p ps held)
  where
    go : (b : Bool) → Eq? (process_queue p) k b
        → (suc k ≤ process_queue p → process_queue p < suc k + n → ascends (process_queue p) (map process_queue ps) ≡ true
        → gathered psw n (suc k) (p ∷ ps) ≡ p ∷ gathered psw n (suc k) ps)
        → processes_in psw k (pts_of k (p ∷ ps)) ++ gathered psw n (suc k) (p ∷ ps) ≡ p ∷ (processes_in psw k (pts_of k ps) ++ gathered psw n (suc k) ps)
    go true (same e) ih =
        let q : ◌≡◌ {A = Process} (record { pt = p.pt; task = byte_of_queue k; psw = get_or psw p.pt 0 }) p =
        ap₂ {A = ℕ} {B = ℕ} {C = Process} (λ u v. record { pt = p.pt; task = u; psw = v }) (ap byte_of_queue (sym e) ∙ held.1) held.0 in
        rw (pts_of_same k p ps e, gathered_past psw n (suc k) p ps (omega (arith, e)))
        (ap (λ (x : Process). x ∷ (processes_in psw k (pts_of k ps) ++ gathered psw n (suc k) ps)) q)
    go false (differ e) ih =
        let none : pts_of k ps ≡ [] =
        pts_of_none (leb (process_queue p)) k ps (ascends_every (process_queue p) (process_queue p) (map process_queue ps) (omega arith) a)
        (lt-leb (process_queue p) k (omega (arith, e, h))) in
        rw (pts_of_other k p ps e, none) (ih (omega (arith, e, h)) (omega (arith, l)) a)

module _ (psw : List ℕ) (n k : ℕ) (test : ℕ → Bool)
    (within : (b : ℕ) → test b ≡ true → (byte_of_queue (queue_of_byte b) ≡ b) × ((k ≤ queue_of_byte b) × (queue_of_byte b < k + n))) where
  gathered_all : (before : ℕ) (ps : List Process) → ascends before (map process_queue ps) ≡ true → every test (map task_of ps) ≡ true
      → psws_of psw (map pt_of ps) ≡ map psw_of ps → gathered psw n k ps ≡ ps
  unfolding ascends psws_of
  gathered_all before [] a e h = gathered_nil psw n k
  gathered_all before (p ∷ ps) a e h =
      let own : get_or psw p.pt 0 ≡ p.psw = cc in
      let others : map (λ x. get_or psw x 0) (map pt_of ps) ≡ map psw_of ps = cc in
      let later : ascends (process_queue p) (map process_queue ps) ≡ true = and_right (leb before (process_queue p)) (ascends (process_queue p) (map process_queue ps)) a in
      let v = every_parts test p.task (map task_of ps) e in
      let u = within p.task v.0 in
      gathered_cons psw n k p ps (own, u.0) u.1.0 u.1.1 later
      ∙ ap (λ (l : List Process). p ∷ l) (gathered_all (process_queue p) ps later v.1 others)

processes_again : (i : Image) → Accepted i → processes_from (psw_table i.processes) 0 (queues_of 16 0 i.processes) ≡ i.processes
processes_again i a =
    let p = a.fields.processes in
    processes_from_queues_of (psw_table i.processes) 16 0 i.processes p.few
    ∙ gathered_all (psw_table i.processes) 16 0 (byte_sound i.rows)
    (λ b e. let u = byte_range i.rows a.fields.rows b e in (number_byte b u.0, (omega arith, omega (arith, u.1))))
    0 i.processes p.ascending p.tasks (psws_again i.processes a.after.once p.pts)

-- ---- the whole

pub fields_again : (i : Image) → Accepted i → image_of (state_of i) ≡ i
unfolding image_of state_of memory_of
fields_again i a = rw (cells_again i.constants, cells_again i.registers, cells_again i.data_words, processes_again i a)
