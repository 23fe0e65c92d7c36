-- A window as code carries it: its first address and the address past its last, 0 where it is empty. One comparison then tells a place
-- from a violation; laws place_below_lem and byte_below_lem (Laws/Spans) say that these are the places of the window.
use Rattle.std.specs.Prelude.{ℕ, suc, ◌+◌, ◌^◌, ◌≡◌, cond, leb, ltb, Option, Some, None}
use Rattle.window.specs.declared.Window.{Window}

unfoldable pub end_of : Window → ℕ
end_of w = cond (leb w.first w.last) (suc w.last) 0

pub record Span (w : Window) (base end : ℕ) : Type 0 where
  pub first : base ≡ w.first
  pub past : end ≡ end_of w

-- the real address of an effective address
unfoldable pub place_below : (base end e : ℕ) → Option ℕ
place_below base end e = cond (ltb (base + e) end) (Some (base + e)) None

-- the same of a byte address of data
unfoldable pub byte_below : (base end e : ℕ) → Option ℕ
byte_below base end e = cond (leb (2 ^ 31) e) None (place_below base end e)
