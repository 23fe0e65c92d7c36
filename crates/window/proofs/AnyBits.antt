-- Facts of windows, for any number k of appended bits.
use Rattle.std.proofs.Common.{Some, None}
use Rattle.std.specs.Prelude.{◌≡◌, ◌↔◌, true, false, ℕ, ◌+◌, ◌*◌, ◌/◌, ◌^◌, ◌≤◌, ◌<◌}
use Rattle.window.specs.declared.Row.{Row}
use Rattle.window.specs.declared.Window.{Window}
use Rattle.window.specs.Windows.{window_of, inside, place_in, data_window, data_word_window, byte_place, meets}
use Rattle.window.proofs.Laws.Windows.{in_of, of_in, in_window, none_inside, base_inside, word_inside, byte_inside, reached, past, placed, byte_placed, meeting, met, meets_by_bases}

-- a real address lies in a window where its bits before the last k are from base to limit
pub window_holds : (k base limit a : ℕ) → (inside (window_of k base limit) a ≡ true) ↔ ((base ≤ a / 2 ^ k) × (a / 2 ^ k ≤ limit))
window_holds k b l a = ((λ e. (in_window k b l a).0 (in_of (window_of k b l) a e)), (λ h. of_in (window_of k b l) a ((in_window k b l a).1 h)))

-- a base above its limit makes an empty window
pub window_empty : (k base limit a : ℕ) → limit < base → inside (window_of k base limit) a ≡ false
window_empty k b l a h = none_inside k b l a h

pub window_not_empty : (k base limit : ℕ) → base ≤ limit → inside (window_of k base limit) (base * 2 ^ k) ≡ true
window_not_empty k b l h = of_in (window_of k b l) (b * 2 ^ k) (base_inside k b l h)

-- a window by units of 2^j addresses: data_window by bytes and data_word_window by words of 8 bytes are one window
pub window_by_units : (j k base limit a : ℕ) → (inside (window_of (j + k) base limit) a ≡ true) ↔ (inside (window_of k base limit) (a / 2 ^ j) ≡ true)
window_by_units j k b l a = (
  (λ e. of_in (window_of k b l) (a / 2 ^ j) (word_inside j k b l a (in_of (window_of (j + k) b l) a e))),
  (λ e. of_in (window_of (j + k) b l) a (byte_inside j k b l a (in_of (window_of k b l) (a / 2 ^ j) e))),
)

-- an effective address reaches base + effective address, unless that is above the limit
pub window_reached : (k base limit e : ℕ) → base + e / 2 ^ k ≤ limit → place_in (window_of k base limit) e ≡ Some (base * 2 ^ k + e)
window_reached k b l e h = reached k b l e h

pub window_violated : (k base limit e : ℕ) → limit < base + e / 2 ^ k → place_in (window_of k base limit) e ≡ None
window_violated k b l e h = past k b l e h

-- a place found lies inside its window; a byte place inside the data window, and its word in that window by words
pub place_inside : (w : Window) (e a : ℕ) → place_in w e ≡ Some a → inside w a ≡ true
place_inside w e a h = placed w e a h

pub byte_place_inside : (r : Row) (e a : ℕ) → byte_place r e ≡ Some a → inside (data_window r) a ≡ true
byte_place_inside r e a h = byte_placed r e a h

pub byte_word_inside : (r : Row) (e a : ℕ) → byte_place r e ≡ Some a → inside (data_word_window r) (a / 8) ≡ true
unfolding data_window data_word_window
byte_word_inside r e a h = (window_by_units 3 5 r.db r.dl a).0 (byte_placed r e a h)

-- two windows meet just where a real address lies in both
pub windows_meet : (v w : Window) → (meets v w ≡ true) ↔ ((a : ℕ) × (inside v a ≡ true) × (inside w a ≡ true))
windows_meet v w = (
  (λ e. let m = met v w e in (m.0, of_in v m.0 m.1, of_in w m.0 m.2)),
  (λ m. meeting v w m.0 m.1 m.2),
)

-- by bases and limits
pub windows_meet_by_bases : (k b l b' l' : ℕ) → (meets (window_of k b l) (window_of k b' l') ≡ true) ↔ (((b ≤ l) × (b' ≤ l')) × ((b ≤ l') × (b' ≤ l)))
windows_meet_by_bases k b l b' l' = meets_by_bases k b l b' l'
