-- What the code does one after the other: a choice tried, seven places in descending order.
use Rattle.std.specs.Prelude.{ℕ, cond, List, [], ◌∷◌, leb, replicate, Option, Some, None}
use Rattle.filling.specs.Filling.{most_chosen, sum_of, keeps_rules}

-- a choice's sum where it keeps the rules
unfoldable pub tried_of : List ℕ → (choice : ℕ) → Option ℕ
tried_of needs x = cond (keeps_rules needs x) (Some (sum_of needs x)) None

-- a number goes in where a smaller or equal one stands, and what stood there goes further; the last is lost
unfoldable pub pushed : ℕ → List ℕ → List ℕ
pushed n [] = []
pushed n (m ∷ ms) = cond (leb m n) (n ∷ pushed m ms) (m ∷ pushed n ms)

-- the numbers of a list go into places, the last first
unfoldable pub onto : (places : List ℕ) → List ℕ → List ℕ
onto places [] = places
onto places (n ∷ ns) = pushed n (onto places ns)

unfoldable pub tops_of : List ℕ → List ℕ
tops_of needs = onto (replicate most_chosen 0) needs
