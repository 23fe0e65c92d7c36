-- Addresses inside the windows of rows that end in their memories.
use Rattle.std.specs.Prelude.{◌≡◌, refl, Bool, true, false, ◌||◌, List, [], ◌∷◌, ℕ, ◌<◌, ltb}
use Rattle.std.proofs.Common.{subst, arith, ltb-true, Some}
use Rattle.word.proofs.Laws.Bools.{and_left, and_right}
use Rattle.window.specs.declared.Row.{Row}
use Rattle.window.specs.declared.Window.{Window}
use Rattle.window.specs.Windows.{inside}
use Rattle.window.proofs.Laws.Windows.{in_of}
use Rattle.step.specs.State.{find_row}
use Rattle.step.specs.Soundness.{ends_in, row_ends_in, windows_sound}
use Rattle.step.proofs.Laws.Rows.{here, there, found, none_some}

pub ends_at : (w : Window) (n : ℕ) → ends_in w n ≡ true → (a : ℕ) → inside w a ≡ true → a < n
unfolding ends_in
ends_at w n e a i = go (ltb w.last w.first) refl e
  where
    go : (b : Bool) → ltb w.last w.first ≡ b → b || ltb w.last n ≡ true → a < n
    go true q k = let h = in_of w a i in let z = ltb-true w.last w.first q in absurd (omega (arith, h.from, h.to, z))
    go false q k = let h = in_of w a i in let z = ltb-true w.last n k in omega (arith, h.to, z)

pub row_ends : (nr np nd t : ℕ) (rs : List Row) (r : Row) → windows_sound nr np nd rs ≡ true → find_row t rs ≡ Some r → row_ends_in nr np nd r ≡ true
unfolding windows_sound
row_ends nr np nd t [] r e f = absurd (none_some r (unfold find_row in f))
row_ends nr np nd t (y ∷ rs) r e f =
    elim (found t r y rs f) [
      | here q p ↦ subst (λ (x : Row). row_ends_in nr np nd x ≡ true) p (and_left (row_ends_in nr np nd y) (windows_sound nr np nd rs) e)
      | there q k ↦ row_ends nr np nd t rs r (and_right (row_ends_in nr np nd y) (windows_sound nr np nd rs) e) k
    ]
