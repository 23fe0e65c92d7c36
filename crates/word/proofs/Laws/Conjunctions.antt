-- Tests joined by `&&`, with the tests found from their proofs.
use Rattle.std.specs.Prelude.{◌≡◌, Bool, true, false, ◌&&◌, refl}
use Rattle.word.proofs.Laws.Bools.{and_left, and_right, and_both}

pub also : {a b : Bool} → a ≡ true → b ≡ true → a && b ≡ true
also {a} {b} e f = and_both a b e f

pub both : {a b : Bool} {P Q : Type 0} → (a ≡ true → P) → (b ≡ true → Q) → a && b ≡ true → P × Q
both {a} {b} f g e = (f (and_left a b e), g (and_right a b e))

pub and_map : {a b c d : Bool} → (a ≡ true → b ≡ true) → (c ≡ true → d ≡ true) → a && c ≡ true → b && d ≡ true
and_map f g e = let u = both f g e in also u.0 u.1

pub and_assoc : (a b c : Bool) → (a && b) && c ≡ a && (b && c)
and_assoc true b c = refl
and_assoc false b c = refl
