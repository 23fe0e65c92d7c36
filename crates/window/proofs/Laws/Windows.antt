-- Facts of windows, for any number k of appended bits.
use Rattle.std.specs.Prelude.{◌≡◌, refl, ◌↔◌, Bool, true, false, cond, ℕ, suc, ◌+◌, ◌-◌, ◌*◌, ◌/◌, ◌^◌, ◌≤◌, ◌<◌, max, leb}
use Rattle.std.proofs.Common.{ap, le-div_iff_mul-le, div-lt_iff_lt-mul, suc-mul, arith, pow_pos, shr-shr, leb-true, le-leb, Option, Some, None}
use Rattle.std.proofs.Math.Nat.{mul-add-div_right}
use Rattle.std.proofs.lemmas.Nat.{shl-shr}
use Rattle.window.specs.declared.Row.{Row}
use Rattle.window.specs.declared.Window.{Window}
use Rattle.window.specs.Windows.{window_of, inside, place_in, data_window, byte_place, meets}
use Rattle.word.proofs.Laws.Conjunctions.{also, both}
use Rattle.word.proofs.Laws.Bools.{Le?, below, above, le?, and_left, and_right, and_both}

-- a real address in a window, as an order
pub record In (w : Window) (a : ℕ) : Type 0 where
  pub from : w.first ≤ a
  pub to : a ≤ w.last

pub in_of : (w : Window) (a : ℕ) → inside w a ≡ true → In w a
unfolding inside
in_of w a e = record {
  from = leb-true w.first a (and_left (leb w.first a) (leb a w.last) e);
  to = leb-true a w.last (and_right (leb w.first a) (leb a w.last) e);
}

pub of_in : (w : Window) (a : ℕ) → In w a → inside w a ≡ true
unfolding inside
of_in w a i = and_both (leb w.first a) (leb a w.last) (le-leb w.first a i.from) (le-leb a w.last i.to)

-- the place of an effective address lies in the window
pub placed : (w : Window) (e : ℕ) (a : ℕ) → place_in w e ≡ Some a → inside w a ≡ true
unfolding place_in
placed w e a = go (leb (w.first + e) w.last) (le? (w.first + e) w.last)
  where
    same : Option ℕ → ℕ
    same (Some x) = x
    same None = 0

    go : (b : Bool) → Le? (w.first + e) w.last b → cond b (Some (w.first + e)) None ≡ Some a → inside w a ≡ true
    go true (below h) q = let k : w.first + e ≡ a = ap same q in of_in w a (record { from = omega arith; to = omega arith })
    go false (above h) q = let z : ◌≡◌ {A = ℕ} 0 1 = cc in absurd (omega arith)

pub byte_placed : (r : Row) (e a : ℕ) → byte_place r e ≡ Some a → inside (data_window r) a ≡ true
unfolding byte_place
byte_placed r e a = go (leb (2 ^ 31) e)
  where
    go : (b : Bool) → cond b None (place_in (data_window r) e) ≡ Some a → inside (data_window r) a ≡ true
    go true q = let z : ◌≡◌ {A = ℕ} 0 1 = cc in absurd (omega arith)
    go false q = placed (data_window r) e a q

-- a number is at most the limit with k ones appended where it is at most the limit once k bits are cut off
below_limit : (k l a : ℕ) → (a ≤ l * 2 ^ k + (2 ^ k - 1)) ↔ (a / 2 ^ k ≤ l)
below_limit k l a = (
  (λ h. let q : a / 2 ^ k < suc l = (div-lt_iff_lt-mul (pow_pos k)).1 (omega (arith, suc-mul l (2 ^ k), pow_pos k)) in omega arith),
  (λ h. let q : a < suc l * 2 ^ k = (div-lt_iff_lt-mul (pow_pos k)).0 (omega arith) in omega (arith, suc-mul l (2 ^ k), pow_pos k)),
)

above_base : (k b a : ℕ) → (b * 2 ^ k ≤ a) ↔ (b ≤ a / 2 ^ k)
above_base k b a = ((λ h. (le-div_iff_mul-le (pow_pos k)).1 h), (λ h. (le-div_iff_mul-le (pow_pos k)).0 h))

-- membership: an address is in a window where its upper part is between base and limit
pub in_window : (k b l a : ℕ) → In (window_of k b l) a ↔ ((b ≤ a / 2 ^ k) × (a / 2 ^ k ≤ l))
unfolding window_of
in_window k b l a = (
  (λ h. ((above_base k b a).0 h.from, (below_limit k l a).0 h.to)),
  (λ h. record { from = (above_base k b a).1 h.0; to = (below_limit k l a).1 h.1 }),
)

-- emptiness: a base above its limit makes an empty window, and nothing else does
pub empty_window : (k b l a : ℕ) → l < b → ¬ In (window_of k b l) a
empty_window k b l a h i = omega (arith, (in_window k b l a).0 i)

pub none_inside : (k b l a : ℕ) → l < b → inside (window_of k b l) a ≡ false
none_inside k b l a h = go (inside (window_of k b l) a) refl
  where
    go : (t : Bool) → inside (window_of k b l) a ≡ t → t ≡ false
    go true e = absurd (empty_window k b l a h (in_of (window_of k b l) a e))
    go false e = refl

pub base_inside : (k b l : ℕ) → b ≤ l → In (window_of k b l) (b * 2 ^ k)
base_inside k b l h = let e : b * 2 ^ k / 2 ^ k ≡ b = shl-shr b k in (in_window k b l (b * 2 ^ k)).1 (omega arith)

-- an effective address is within the limit
pub reach : (k b l e : ℕ) → ((window_of k b l).first + e ≤ (window_of k b l).last) ↔ (b + e / 2 ^ k ≤ l)
unfolding window_of
reach k b l e =
    let q : (b * 2 ^ k + e) / 2 ^ k ≡ b + e / 2 ^ k = mul-add-div_right (pow_pos k) b e in
    ((λ h. omega (arith, (below_limit k l (b * 2 ^ k + e)).0 h)), (λ h. (below_limit k l (b * 2 ^ k + e)).1 (omega arith)))

-- so it has a place there, or none
pub reached : (k b l e : ℕ) → b + e / 2 ^ k ≤ l → place_in (window_of k b l) e ≡ Some (b * 2 ^ k + e)
unfolding place_in window_of
reached k b l e h = rw (le-leb _ _ ((reach k b l e).1 h))

pub past : (k b l e : ℕ) → l < b + e / 2 ^ k → place_in (window_of k b l) e ≡ None
unfolding place_in window_of
past k b l e h = go (leb (b * 2 ^ k + e) (l * 2 ^ k + (2 ^ k - 1))) (le? (b * 2 ^ k + e) (l * 2 ^ k + (2 ^ k - 1)))
  where
    go : (t : Bool) → Le? (b * 2 ^ k + e) (l * 2 ^ k + (2 ^ k - 1)) t → cond t (Some (b * 2 ^ k + e)) None ≡ None
    go true (below p) = absurd (omega (arith, (reach k b l e).0 p))
    go false (above p) = refl

-- a byte lies in a window of bytes just where its word lies in the window of words
pub word_inside : (j k b l a : ℕ) → In (window_of (j + k) b l) a → In (window_of k b l) (a / 2 ^ j)
word_inside j k b l a i =
    let q : a / 2 ^ j / 2 ^ k ≡ a / 2 ^ (j + k) = shr-shr a j k in
    (in_window k b l (a / 2 ^ j)).1 (omega (arith, (in_window (j + k) b l a).0 i))

pub byte_inside : (j k b l a : ℕ) → In (window_of k b l) (a / 2 ^ j) → In (window_of (j + k) b l) a
byte_inside j k b l a i =
    let q : a / 2 ^ j / 2 ^ k ≡ a / 2 ^ (j + k) = shr-shr a j k in
    (in_window (j + k) b l a).1 (omega (arith, (in_window k b l (a / 2 ^ j)).0 i))

-- the test of `meets` is right: an address in both windows, and none where it fails
pub meeting : (v w : Window) (a : ℕ) → inside v a ≡ true → inside w a ≡ true → meets v w ≡ true
unfolding meets
meeting v w a e f =
    let i : In v a = in_of v a e in
    let j : In w a = in_of w a f in
    also (also (le-leb v.first v.last (omega arith)) (le-leb w.first w.last (omega arith)))
    (also (le-leb v.first w.last (omega arith)) (le-leb w.first v.last (omega arith)))

-- a test of four orders, taken apart
pub record Crossed (v w : Window) : Type 0 where
  pub own : v.first ≤ v.last
  pub other : w.first ≤ w.last
  pub low : v.first ≤ w.last
  pub high : w.first ≤ v.last

pub crossed : (v w : Window) → meets v w ≡ true → Crossed v w
unfolding meets
crossed v w e =
    let parts : _ = both (both (leb-true v.first v.last) (leb-true w.first w.last)) (both (leb-true v.first w.last) (leb-true w.first v.last)) e in
    record { own = parts.0.0; other = parts.0.1; low = parts.1.0; high = parts.1.1 }

pub met : (v w : Window) → meets v w ≡ true → (a : ℕ) × In v a × In w a
met v w e =
    let c : Crossed v w = crossed v w e in
    (max v.first w.first, record { from = omega arith; to = omega arith }, record { from = omega arith; to = omega arith })

-- by bases and limits, for any number of appended bits
pub meets_by_bases : (k b l b' l' : ℕ) → (meets (window_of k b l) (window_of k b' l') ≡ true) ↔ (((b ≤ l) × (b' ≤ l')) × ((b ≤ l') × (b' ≤ l)))
meets_by_bases k b l b' l' = (
  (λ e.
      let m : _ = met (window_of k b l) (window_of k b' l') e in
      omega (arith, (in_window k b l m.0).0 m.1, (in_window k b' l' m.0).0 m.2)),
  (λ h.
      let x : b * 2 ^ k / 2 ^ k ≡ b = shl-shr b k in
      let y : b' * 2 ^ k / 2 ^ k ≡ b' = shl-shr b' k in
      go (leb b b') (le? b b') h x y),
)
  where
    go : (t : Bool) → Le? b b' t → ((b ≤ l) × (b' ≤ l')) × ((b ≤ l') × (b' ≤ l)) → b * 2 ^ k / 2 ^ k ≡ b → b' * 2 ^ k / 2 ^ k ≡ b'
        → meets (window_of k b l) (window_of k b' l') ≡ true
    go true (below p) h x y =
        meeting (window_of k b l) (window_of k b' l') (b' * 2 ^ k) (of_in (window_of k b l) (b' * 2 ^ k) ((in_window k b l (b' * 2 ^ k)).1 (omega arith)))
        (of_in (window_of k b' l') (b' * 2 ^ k) ((in_window k b' l' (b' * 2 ^ k)).1 (omega arith)))
    go false (above p) h x y =
        meeting (window_of k b l) (window_of k b' l') (b * 2 ^ k) (of_in (window_of k b l) (b * 2 ^ k) ((in_window k b l (b * 2 ^ k)).1 (omega arith)))
        (of_in (window_of k b' l') (b * 2 ^ k) ((in_window k b' l' (b * 2 ^ k)).1 (omega arith)))
