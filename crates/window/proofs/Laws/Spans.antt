-- The places of a window by its first address and the address past its last.
use Rattle.std.specs.Prelude.{ℕ, suc, ◌+◌, ◌≡◌, Bool, true, false, cond, leb, ltb}
use Rattle.std.proofs.Common.{arith, lt-ltb, le-ltb, Some, None}
use Rattle.word.proofs.Laws.Bools.{Le?, below, above, le?}
use Rattle.window.specs.declared.Row.{Row}
use Rattle.window.specs.declared.Window.{Window}
use Rattle.window.specs.Windows.{place_in, data_window, byte_place}
use Rattle.window.specs.Code.Spans.{end_of, Span, place_below, byte_below}

-- one comparison with the end is the comparison with the last
below_end : (w : Window) (e : ℕ) → place_below w.first (end_of w) e ≡ place_in w e
unfolding place_below end_of place_in
below_end w e = go (leb w.first w.last) (le? w.first w.last) (leb (w.first + e) w.last) (le? (w.first + e) w.last)
  where
    go : (s : Bool) → Le? w.first w.last s → (t : Bool) → Le? (w.first + e) w.last t
        → cond (ltb (w.first + e) (cond s (suc w.last) 0)) (Some (w.first + e)) None ≡ cond t (Some (w.first + e)) None
    go true (below p) true (below q) = rw (lt-ltb (w.first + e) (suc w.last) (omega arith))
    go true (below p) false (above q) = rw (le-ltb (w.first + e) (suc w.last) (omega arith))
    go false (above p) true (below q) = absurd (omega arith)
    go false (above p) false (above q) = rw (le-ltb (w.first + e) 0 (omega arith))

pub place_below_lem : (w : Window) (base end : ℕ) → Span w base end → (e : ℕ) → place_below base end e ≡ place_in w e
place_below_lem w base end s e = rw (s.first, s.past) (below_end w e)

pub byte_below_lem : (row : Row) (base end : ℕ) → Span (data_window row) base end → (e : ℕ) → byte_below base end e ≡ byte_place row e
unfolding byte_below byte_place
byte_below_lem row base end s e = rw (place_below_lem (data_window row) base end s e)
