-- A number checked at a place.
use Prim.Native.Nat.{ℕ, ◌-◌, ◌≤◌, ◌<◌}
use mathlib.Core.Path.{◌≡◌}
use mathlib.Core.Bool.{Bool, true, false}
use mathlib.Core.List.{List}
use Rattle.std.specs.Prelude.{Ok, Err}
use lib.ListN.{length, drop, length-drop}
use borrow.Author.Tests.{le-ltb, lt-ltb}
use Rattle.refusal.specs.declared.Refusal.{Refusal}
use Rattle.refusal.specs.declared.Refusal.TheVariants.{InputEnds}
use Rattle.image.specs.Codec.{num}
use Rattle.image_bytes.specs.Code.Scanning.{scanned}

module _ (w : ℕ) (e : Refusal) (s : List ℕ) (p : ℕ) where
  pub number_short : (good : Bool) → length s - p < w → scanned (length s) ((num w e (λ _. good)).dec (drop p s)) ≡ Err InputEnds
  unfolding num scanned
  number_short good h = rw (lt-ltb (length (drop p s)) w (rw length-drop h))

  pub number_bad : (good : Bool) → w ≤ length s - p → good ≡ false → scanned (length s) ((num w e (λ _. good)).dec (drop p s)) ≡ Err e
  unfolding num scanned
  number_bad good h g = rw (le-ltb (length (drop p s)) w (rw length-drop h), g)

  pub number_fine : (good : Bool) → w ≤ length s - p → good ≡ true → scanned (length s) ((num w e (λ _. good)).dec (drop p s)) ≡ Ok (length s - (length s - p - w))
  unfolding num scanned
  number_fine good h g = rw (le-ltb (length (drop p s)) w (rw length-drop h), g, length-drop, length-drop)
