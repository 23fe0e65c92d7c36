-- The items of a sound schedule.
use Rattle.std.specs.Prelude.{ℕ, zero, suc, ◌≤◌, ◌<◌, ◌≡◌, true, List, [], ◌∷◌, leb, length, get_or}
use Rattle.std.proofs.Common.{arith, leb-true}
use Rattle.word.proofs.Laws.Bools.{and_left, and_right}
use Rattle.step.specs.Soundness.{every}
use Rattle.step.proofs.Laws.Every.{every_parts}
use Rattle.run.specs.Schedule.{item_sound}

-- the item at i of a sound schedule
sound_at : (l : List ℕ) (i : ℕ) → every item_sound l ≡ true → i < length l → item_sound (get_or l i 0) ≡ true
sound_at [] i e h = absurd (omega arith)
sound_at (x ∷ l) zero e h = (every_parts item_sound x l e).0
sound_at (x ∷ l) (suc i) e h = sound_at l i (every_parts item_sound x l e).1 (omega arith)

pub item_in_lem : (l : List ℕ) (i : ℕ) → every item_sound l ≡ true → i < length l → (1 ≤ get_or l i 0) × (get_or l i 0 ≤ 7)
unfolding item_sound
item_in_lem l i e h =
    let s : item_sound (get_or l i 0) ≡ true = sound_at l i e h in
    (leb-true 1 (get_or l i 0) (and_left (leb 1 (get_or l i 0)) (leb (get_or l i 0) 7) s), leb-true (get_or l i 0) 7 (and_right (leb 1 (get_or l i 0)) (leb (get_or l i 0) 7) s))
