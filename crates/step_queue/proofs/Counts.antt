-- The loop over the queues: of the first k the counts are those found by counting.
use mathlib.Core.Path.{◌≡◌, sym, ap₂, ◌∙◌}
use mathlib.Core.List.{List, [], ◌∷◌, ◌++◌}
use Prim.Native.Nat.{ℕ, ◌+◌, ◌*◌, ◌≤◌, ◌<◌}
use native.Mathlib.Numerals.{add-one}
use native.Mathlib.Omega.{arith}
use lib.ListN.{length, get_or, set, take}
use lib.Seq.{take_all, take-suc, take-suc-set}
use Rattle.step.specs.declared.Queue.{Queue}
use Rattle.step.specs.Queues.{live_counts}
use Rattle.step.specs.State.{no_queue}
use Rattle.step.proofs.Laws.Queues.{counts_get, length_counts}

pub counts_go : (qs : List Queue) (l : List ℕ) (k n : ℕ) → k < length l → 2 * k + 1 < length qs → n ≡ (get_or qs (2 * k) no_queue).len + (get_or qs (2 * k + 1) no_queue).len → take k l ≡ take k (live_counts qs)
    → take (k + 1) (set l k n) ≡ take (k + 1) (live_counts qs)
counts_go qs l k n h i e t =
    rw (add-one k)
    (take-suc-set l k n h
    ∙ ap₂ {C = List ℕ} (λ x y. x ++ (y ∷ [])) t (e ∙ sym (counts_get qs k))
    ∙ sym (take-suc (live_counts qs) k 0 (omega (arith, length_counts qs))))

pub counts_full : (qs : List Queue) (l : List ℕ) (k : ℕ) → length l ≤ k → length qs ≤ 2 * k → take k l ≡ take k (live_counts qs) → l ≡ live_counts qs
counts_full qs l k h i t = sym (take_all k l h) ∙ t ∙ take_all k (live_counts qs) (omega (arith, length_counts qs))
