-- Tests joined by `&&` in another order, and tests that another implies.
use Rattle.std.specs.Prelude.{◌≡◌, refl, Bool, true, false, ◌&&◌}

-- a test that another implies
pub and_implied : (a b : Bool) → (b ≡ true → a ≡ true) → a && b ≡ b
and_implied true b h = refl
and_implied false true h = h refl
and_implied false false h = refl

pub and_true : (a : Bool) → a && true ≡ a
and_true true = refl
and_true false = refl

pub and_turn : (a b c : Bool) → a && (b && c) ≡ b && (a && c)
and_turn true b c = refl
and_turn false true c = refl
and_turn false false c = refl

pub and_cross : (a b c d : Bool) → (a && b) && (c && d) ≡ (a && c) && (b && d)
and_cross true b c d = and_turn b c d
and_cross false b c d = refl
