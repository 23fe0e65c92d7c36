-- The live counts of the queues that an image's processes are laid in.
use Prim.Native.Nat.{ℕ, zero, suc, ◌+◌, ◌≤◌, ◌<◌}
use Rattle.std.specs.Prelude.{◌≡◌, ◌≢◌, true}
use Rattle.std.proofs.Math.Path.{refl, sym, ap, ap₂}
use Rattle.std.proofs.Common.{◌∙◌, arith}
use mathlib.Core.List.{List, [], ◌∷◌, ◌++◌, append-nil}
use Rattle.std.proofs.Math.ListN.{length}
use Rattle.step.specs.declared.Queue.{Queue}
use Rattle.step.specs.Queues.{list_of, live_counts, live_total}
use Rattle.step.specs.State.{State}
use Rattle.step.specs.Soundness.{sound}
use Rattle.step.proofs.Laws.Queues.{length_list, pair_sums, lengths, counts_lengths}
use Rattle.step.proofs.Laws.Sound.{sound_parts}
use Rattle.step.proofs.Laws.Counted.{live_counted}
use Rattle.step.proofs.Laws.LiveCounts.{sum_of, total_sum}
use Rattle.image.specs.declared.Process.{Process}
use Rattle.image.specs.Codec.{Bytes}
use Rattle.image.specs.Image.{Image, good, pts_of, queue_of, queues_of, psw_table, processes_in, processes_from, state_of, image_of, decode}
use Rattle.image.proofs.Laws.Accepted.{Accepted, decode_accepted}
use Rattle.image.proofs.Laws.Table.{byte_number, pts_of_same, pts_of_other}
use Rattle.image.proofs.Laws.Again.{fields_again}
use Rattle.image.proofs.Laws.Fields.{length_from}

-- every process of an accepted image is live
pub accepted_total : (i : Image) → Accepted i → live_total (queues_of 16 0 i.processes) ≡ length i.processes
unfolding live_total image_of state_of
accepted_total i a =
    sym (length_from (psw_table i.processes) 0 (queues_of 16 0 i.processes)) ∙ ap (λ (x : Image). length x.processes) (fields_again i a)

pub read_total : (b : List ℕ) → Bytes b → (i : Image) → decode b ≡ good i → (state_of i).table.users.count ≡ length i.processes
unfolding state_of
read_total b hb i h = accepted_total i (decode_accepted b hb i h).0

-- ---- the processes of queues, laid in queues again

module _ (psw : List ℕ) where
  pts_in_same : (k : ℕ) (l : List ℕ) (ps : List Process) → k < 32 → pts_of k (processes_in psw k l ++ ps) ≡ l ++ pts_of k ps
  unfolding processes_in
  pts_in_same k [] ps h = refl
  pts_in_same k (p ∷ l) ps h = pts_of_same k _ (processes_in psw k l ++ ps) (byte_number k h) ∙ ap (λ (x : List ℕ). p ∷ x) (pts_in_same k l ps h)

  pts_in_other : (k j : ℕ) (l : List ℕ) (ps : List Process) → j < 32 → j ≢ k → pts_of k (processes_in psw j l ++ ps) ≡ pts_of k ps
  unfolding processes_in
  pts_in_other k j [] ps h n = refl
  pts_in_other k j (p ∷ l) ps h n = pts_of_other k _ (processes_in psw j l ++ ps) (λ e. n (sym (byte_number j h) ∙ e)) ∙ pts_in_other k j l ps h n

  -- no process of a queue before the first
  pts_from_before : (k j : ℕ) (qs : List Queue) → j + length qs ≤ 32 → k < j → pts_of k (processes_from psw j qs) ≡ []
  unfolding processes_from pts_of
  pts_from_before k j [] h l = refl
  pts_from_before k j (q ∷ qs) h l =
      pts_in_other k j (list_of q) (processes_from psw (suc j) qs) (omega (arith, h)) (λ e. omega (arith, e, l))
      ∙ pts_from_before k (suc j) qs (omega (arith, h)) (omega (arith, l))

  -- processes of a queue before number k lie in no queue from k on
  queues_past : (n k j : ℕ) (l : List ℕ) (ps : List Process) → j < 32 → j < k → queues_of n k (processes_in psw j l ++ ps) ≡ queues_of n k ps
  unfolding queues_of
  queues_past zero k j l ps h m = refl
  queues_past (suc n) k j l ps h m =
      ap₂ {C = List Queue} (λ x xs. queue_of x ∷ xs) (pts_in_other k j l ps h (λ e. omega (arith, e, m))) (queues_past n (suc k) j l ps h (omega (arith, m)))

  lengths_from : (k : ℕ) (qs : List Queue) → k + length qs ≤ 32 → lengths (queues_of (length qs) k (processes_from psw k qs)) ≡ lengths qs
  unfolding queues_of processes_from queue_of
  lengths_from k [] h = refl
  lengths_from k (q ∷ qs) h =
      let others = processes_from psw (suc k) qs in
      let mine : pts_of k (processes_in psw k (list_of q) ++ others) ≡ list_of q =
      pts_in_same k (list_of q) others (omega (arith, h)) ∙ ap (λ (l : List ℕ). list_of q ++ l) (pts_from_before k (suc k) qs (omega (arith, h)) (omega arith)) ∙ append-nil (list_of q) in
      ap₂ {C = List ℕ} (λ n l. n ∷ l)
      (ap length mine ∙ length_list q)
      (ap lengths (queues_past (length qs) (suc k) k (list_of q) others (omega (arith, h)) (omega arith)) ∙ lengths_from (suc k) qs (omega (arith, h)))

module _ (s : State) (e : sound s ≡ true) where
  laid : live_counts (queues_of 16 0 (processes_from s.table.users.psw 0 s.table.users.queues)) ≡ live_counts s.table.users.queues
  laid =
      let n = (sound_parts s e).table.sixteen in
      counts_lengths (queues_of 16 0 (processes_from s.table.users.psw 0 s.table.users.queues))
      ∙ ap pair_sums
      (ap (λ (n : ℕ). lengths (queues_of n 0 (processes_from s.table.users.psw 0 s.table.users.queues))) (sym n)
      ∙ lengths_from s.table.users.psw 0 s.table.users.queues (omega (arith, n)))
      ∙ sym (counts_lengths s.table.users.queues)

  pub counts_again : (state_of (image_of s)).table.users.live ≡ s.table.users.live
  unfolding state_of image_of
  counts_again = laid ∙ sym (live_counted s.table.users (sound_parts s e).table.counted).0

  pub total_again : (state_of (image_of s)).table.users.count ≡ s.table.users.count
  unfolding state_of image_of
  total_again =
      total_sum (queues_of 16 0 (processes_from s.table.users.psw 0 s.table.users.queues)) ∙ ap sum_of laid ∙ sym (total_sum s.table.users.queues)
      ∙ sym (live_counted s.table.users (sound_parts s e).table.counted).1
