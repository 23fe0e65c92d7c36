-- The place of an effective address, past the window and within its limit.
use Rattle.std.proofs.Common.{Some, None}
use Prim.Native.Nat.{ℕ, ◌+◌, ◌≤◌, ◌<◌}
use mathlib.Core.Path.{◌≡◌}
use borrow.Author.Tests.{le-leb, lt-leb}
use Rattle.window.specs.declared.Window.{Window}
use Rattle.window.specs.Windows.{place_in}

module _ (w : Window) (e : ℕ) where
  pub place_past : w.last < w.first + e → None ≡ place_in w e
  unfolding place_in
  place_past h = simp (lt-leb _ _ h)

  pub place_at : w.first + e ≤ w.last → Some (w.first + e) ≡ place_in w e
  unfolding place_in
  place_at h = simp (le-leb _ _ h)
