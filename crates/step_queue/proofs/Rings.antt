-- The loop over a ring: what it starts with, a turn, and the end.
use mathlib.Core.Path.{◌≡◌, sym, ap, ◌∙◌}
use mathlib.Core.List.{List}
use Prim.Native.Nat.{ℕ, ◌+◌, ◌-◌, ◌%◌, ◌<◌}
use native.Mathlib.Omega.{arith}
use lib.ListN.{get_or}
use Rattle.step.specs.declared.Queue.{Queue}
use Rattle.step.specs.Queues.{ring, list_of}
use Rattle.step.proofs.Laws.Queues.{ring_same, ring_first}
use Rattle.step_queue.specs.Code.Mask.{without, free_after}

pub ring_starts : (q : Queue) (z : ℕ) → free_after (ring q.pts (q.head % 64) (q.len - 0)) z ≡ free_after (list_of q) z
unfolding list_of
ring_starts q z =
    let none : q.len - 0 ≡ q.len = omega arith in
    ap (λ (n : ℕ). free_after (ring q.pts (q.head % 64) n) z) none
    ∙ ap (λ (l : List ℕ). free_after l z) (ring_same q.pts (q.head % 64) q.head q.len (omega arith))

pub ring_goes : (a : List ℕ) (h n i z r s : ℕ) → h < 64 → i < n → r ≡ without z (get_or a h 0) → free_after (ring a h (n - i)) z ≡ s
    → free_after (ring a ((h + 1) % 64) (n - (i + 1))) r ≡ s
unfolding free_after
ring_goes a h n i z r s p q e w =
    let m : n - (i + 1) ≡ n - i - 1 = omega arith in
    ap (free_after (ring a ((h + 1) % 64) (n - (i + 1)))) e
    ∙ ap (λ (k : ℕ). free_after (ring a ((h + 1) % 64) k) (without z (get_or a h 0))) m
    ∙ sym (ap (λ (l : List ℕ). free_after l z) (ring_first a h (n - i) p (omega arith)))
    ∙ w

pub ring_ends : (a : List ℕ) (h n z s : ℕ) → n ≡ 0 → free_after (ring a h n) z ≡ s → z ≡ s
unfolding free_after ring
ring_ends a h n z s e i = sym (ap (λ (n : ℕ). free_after (ring a h n) z) e) ∙ i
