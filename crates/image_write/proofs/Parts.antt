-- The parts of an image as bytes: how long they are, and how they go on.
use Prim.Native.Nat.{ℕ, suc, ◌+◌, ◌-◌, ◌*◌, ◌%◌, ◌≤◌, ◌<◌}
use mathlib.Core.Path.{◌≡◌, refl, sym, ap, ◌∙◌}
use mathlib.Core.List.{List, [], ◌∷◌, ◌++◌, append_assoc}
use native.Mathlib.Omega.{arith}
use lib.ListN.{length, get_or, drop, length-append}
use Rattle.window.specs.declared.Row.{Row}
use Rattle.step.specs.declared.Queue.{Queue}
use Rattle.step.specs.Queues.{ring, list_of, live_pts}
use Rattle.step.specs.State.{no_queue}
use Rattle.step.proofs.Laws.Queues.{ring_same, ring_first, length_list}
use Rattle.image.specs.declared.Process.{Process}
use Rattle.image.specs.Codec.{num, seq, via, enc_many}
use Rattle.image.specs.Image.{byte_of_queue, row_codec, process_codec, to_process, processes_in, processes_from, row_length, process_length}
use Rattle.image.proofs.Laws.Numbers.{length_digits}
use Rattle.image_bytes.specs.Laws.Bytes.{uniform_length}
use Rattle.image_bytes.specs.Code.Writing.{put_at}
use Rattle.step_soundness.proofs.Loops.{next_of_lem, none_of}
use Rattle.library.specs.Empty.{empty_row}
use Rattle.image_write.specs.Code.Bytes.{row_first, row_second, row_record, row_bytes, process_bytes, rows_bytes, processes_bytes}
use Rattle.image_write.proofs.Going.{Splits, Going, start, room, goes, last}

pub first_length : (r : Row) → length (row_first r) ≡ 7
unfolding row_first
first_length r = simp (length-append, length_digits)

pub second_length : (r : Row) → length (row_second r) ≡ 12
unfolding row_second
second_length r = simp (length-append, length_digits)

pub row_parts : (r : Row) → row_bytes r ≡ row_first r ++ (row_second r ++ row_record r)
unfolding row_bytes row_first row_second row_record row_codec via seq num
row_parts r = simp append_assoc

pub row_length_lem : (r : Row) → length (row_bytes r) ≡ row_length
unfolding row_bytes row_codec via seq num
row_length_lem r = simp (length-append, length_digits)

pub process_length_lem : (p : Process) → length (process_bytes p) ≡ 10
unfolding process_bytes process_codec via seq num
process_length_lem p = simp (length-append, length_digits)

pub rows_length : (rows : List Row) → length (rows_bytes rows) ≡ row_length * length rows
unfolding rows_bytes row_bytes
rows_length rows = uniform_length (row_codec 0) row_length row_length_lem rows

pub processes_length_lem : (ps : List Process) → length (processes_bytes ps) ≡ process_length * length ps
unfolding processes_bytes process_bytes
processes_length_lem ps = uniform_length (process_codec [] 0) 10 process_length_lem ps

pub rows_cons : (r : Row) (rows : List Row) → rows_bytes (r ∷ rows) ≡ row_bytes r ++ rows_bytes rows
unfolding rows_bytes row_bytes enc_many
rows_cons r rows = refl

processes_cons : (p : Process) (ps : List Process) → processes_bytes (p ∷ ps) ≡ process_bytes p ++ processes_bytes ps
unfolding processes_bytes process_bytes enc_many
processes_cons p ps = refl

pub processes_append : (ps qs : List Process) → processes_bytes (ps ++ qs) ≡ processes_bytes ps ++ processes_bytes qs
unfolding processes_bytes enc_many
processes_append [] qs = refl
processes_append (p ∷ ps) qs =
    ap (λ (l : List ℕ). (process_codec [] 0).enc p ++ l) (processes_append ps qs)
    ∙ sym (append_assoc ((process_codec [] 0).enc p) (processes_bytes ps) (processes_bytes qs))

pub in_length : (psw : List ℕ) (t : ℕ) (pts : List ℕ) → length (processes_in psw t pts) ≡ length pts
unfolding processes_in
in_length psw t [] = refl
in_length psw t (p ∷ pts) = ap suc (in_length psw t pts)

pub from_length : (psw : List ℕ) (t : ℕ) (qs : List Queue) → length (processes_from psw t qs) ≡ length (live_pts qs)
unfolding processes_from live_pts
from_length psw t [] = refl
from_length psw t (q ∷ qs) =
    let n = from_length psw (suc t) qs in
    simp (length-append, in_length, n)

-- ---- how the bytes go on

module _ (rows : List Row) (i : ℕ) where
  pub rows_next : (d : Row) → i < length rows → Splits (rows_bytes (drop i rows)) (row_bytes (get_or rows i d)) (rows_bytes (drop (i + 1) rows))
  rows_next d h = record { is = ap rows_bytes (next_of_lem rows i d h) ∙ rows_cons (get_or rows i d) (drop (i + 1) rows) }

  pub rows_none : length rows ≤ i → rows_bytes (drop i rows) ≡ []
  unfolding rows_bytes enc_many
  rows_none h = ap rows_bytes (none_of rows i h)

module _ (psw : List ℕ) (t : ℕ) where
  -- the processes of a queue's ring: the head, and those behind it
  abbrev pub ring_bytes : List ℕ → ℕ → ℕ → List ℕ
  ring_bytes a h n = processes_bytes (processes_in psw t (ring a h n))

  pub ring_starts : (q : Queue) → processes_bytes (processes_in psw t (list_of q)) ≡ ring_bytes q.pts (q.head % 64) q.len
  unfolding list_of
  ring_starts q = ap (λ (l : List ℕ). processes_bytes (processes_in psw t l)) (ring_same q.pts q.head (q.head % 64) q.len (omega arith))

  pub ring_next : (a : List ℕ) (h n : ℕ) → h < 64 → 0 < n
      → Splits (ring_bytes a h n) (process_bytes (to_process (get_or a h 0, (byte_of_queue t, get_or psw (get_or a h 0) 0)))) (ring_bytes a ((h + 1) % 64) (n - 1))
  unfolding processes_in
  ring_next a h n p q = record { is = ap (λ (l : List ℕ). processes_bytes (processes_in psw t l)) (ring_first a h n p q) ∙ processes_cons _ _ }

  pub ring_none : (a : List ℕ) (h n : ℕ) → n ≡ 0 → ring_bytes a h n ≡ []
  unfolding ring processes_in processes_bytes enc_many
  ring_none a h n e = ap (ring_bytes a h) e

  pub queue_length : (q : Queue) → length (processes_bytes (processes_in psw t (list_of q))) ≡ process_length * q.len
  queue_length q = processes_length_lem (processes_in psw t (list_of q)) ∙ ap (λ (n : ℕ). process_length * n) (in_length psw t (list_of q) ∙ length_list q)

  -- the processes of the queues from the kth on
  pub queues_next : (qs : List Queue) (k : ℕ) → k < length qs
      → Splits (processes_bytes (processes_from psw t (drop k qs))) (processes_bytes (processes_in psw t (list_of (get_or qs k no_queue))))
      (processes_bytes (processes_from psw (t + 1) (drop (k + 1) qs)))
  unfolding processes_from
  queues_next qs k h =
      let e : suc t ≡ t + 1 = omega arith in
      record {
        is =
            ap (λ (l : List Queue). processes_bytes (processes_from psw t l)) (next_of_lem qs k no_queue h)
            ∙ processes_append (processes_in psw t (list_of (get_or qs k no_queue))) (processes_from psw (suc t) (drop (k + 1) qs))
            ∙ ap (λ (u : ℕ). processes_bytes (processes_in psw t (list_of (get_or qs k no_queue))) ++ processes_bytes (processes_from psw u (drop (k + 1) qs))) e;
      }

  pub queues_none : (qs : List Queue) (k : ℕ) → length qs ≤ k → processes_bytes (processes_from psw t (drop k qs)) ≡ []
  unfolding processes_from processes_bytes enc_many
  queues_none qs k h = ap (λ (l : List Queue). processes_bytes (processes_from psw t l)) (none_of qs k h)

-- ---- the loops: room for the next part, and a turn

module _ {at : ℕ} {all l₀ l : List ℕ} {p : ℕ} where
  module _ (rows : List Row) (i : ℕ) (z : Going at all l₀ l p (rows_bytes (drop i rows))) (h : i < length rows) where
    pub rows_room : p + row_length ≤ length l
    rows_room =
        let f : p + length (row_bytes (get_or rows i empty_row)) ≤ length l = room at all l₀ z (rows_next rows i empty_row h) in
        omega (arith, row_length_lem (get_or rows i empty_row))

    pub rows_goes : (d : Row) {l₁ : List ℕ} → l₁ ≡ put_at p (row_bytes (get_or rows i d)) l → Going at all l₀ l₁ (p + row_length) (rows_bytes (drop (i + 1) rows))
    rows_goes d e = goes at all l₀ z (rows_next rows i d h) (ap (λ (n : ℕ). p + n) (sym (row_length_lem (get_or rows i d)))) e

  module _ (psw : List ℕ) (t : ℕ) (a : List ℕ) (h n : ℕ) (z : Going at all l₀ l p (ring_bytes psw t a h n)) (k : h < 64) (m : 0 < n) where
    pub ring_room : p + process_length ≤ length l
    ring_room =
        let x = to_process (get_or a h 0, (byte_of_queue t, get_or psw (get_or a h 0) 0)) in
        let f : p + length (process_bytes x) ≤ length l = room at all l₀ z (ring_next psw t a h n k m) in
        omega (arith, process_length_lem x)

    pub ring_goes : {l₁ : List ℕ} (w : ℕ) → w ≡ get_or psw (get_or a h 0) 0 → l₁ ≡ put_at p (process_bytes (to_process (get_or a h 0, (byte_of_queue t, w)))) l
        → Going at all l₀ l₁ (p + process_length) (ring_bytes psw t a ((h + 1) % 64) (n - 1))
    ring_goes w f e =
        goes at all l₀ z (ring_next psw t a h n k m) (ap (λ (n : ℕ). p + n) (sym (process_length_lem (to_process (get_or a h 0, (byte_of_queue t, get_or psw (get_or a h 0) 0))))))
        (e ∙ ap (λ (w : ℕ). put_at p (process_bytes (to_process (get_or a h 0, (byte_of_queue t, w)))) l) f)

  module _ (psw : List ℕ) (t : ℕ) (qs : List Queue) (k : ℕ) (z : Going at all l₀ l p (processes_bytes (processes_from psw t (drop k qs)))) (h : k < length qs) where
    pub queues_room : p + process_length * (get_or qs k no_queue).len ≤ length l
    queues_room =
        let f : p + length (processes_bytes (processes_in psw t (list_of (get_or qs k no_queue)))) ≤ length l = room at all l₀ z (queues_next psw t qs k h) in
        omega (arith, queue_length psw t (get_or qs k no_queue))

    pub queues_go : {l₁ : List ℕ} {q : ℕ} → q ≡ p + length (processes_bytes (processes_in psw t (list_of (get_or qs k no_queue))))
        → l₁ ≡ put_at p (processes_bytes (processes_in psw t (list_of (get_or qs k no_queue)))) l → Going at all l₀ l₁ q (processes_bytes (processes_from psw (t + 1) (drop (k + 1) qs)))
    queues_go e i = goes at all l₀ z (queues_next psw t qs k h) e i

-- ---- a row in its three parts

pub row_put : (at : ℕ) (r : Row) (l₀ : List ℕ) {l₁ l₂ l₃ : List ℕ} → at + row_length ≤ length l₀ → l₁ ≡ put_at at (row_first r) l₀ → l₂ ≡ put_at (at + 7) (row_second r) l₁
    → l₃ ≡ put_at (at + 19) (row_record r) l₂ → l₃ ≡ put_at at (row_bytes r) l₀
row_put at r l₀ h e₁ e₂ e₃ =
    let f : at + length (row_bytes r) ≤ length l₀ = rw row_length_lem h in
    let z₁ = goes at (row_bytes r) l₀ (start at (row_bytes r) l₀ f) {q = at + 7} (record { is = row_parts r }) (rw first_length) e₁ in
    let z₂ = goes at (row_bytes r) l₀ z₁ {q = at + 19} (record { is = refl }) (rw second_length (omega arith)) e₂ in
    last at (row_bytes r) l₀ z₂ e₃
