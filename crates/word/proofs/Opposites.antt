-- The sixteen tests in pairs of opposites, for every word, tag and PSW.
use Rattle.std.specs.Prelude.{◌≡◌, ℕ, ◌+◌, ◌-◌, ◌%◌, ◌<◌, ◌≤◌, not}
use Rattle.word.specs.Tests.{holds_of}
use Rattle.word.proofs.Laws.Opposites.{low_pair, next_pair}

-- codes 0 to 3 each give the opposite of 7 less the code
pub low_opposite : (c w t psw : ℕ) → c ≤ 3 → holds_of c w t psw ≡ not (holds_of (7 - c) w t psw)
low_opposite c w t psw h = low_pair w t psw c h

-- each even code from 8 gives the opposite of the next
pub even_opposite : (c w t psw : ℕ) → 8 ≤ c → c < 16 → c % 2 ≡ 0 → holds_of c w t psw ≡ not (holds_of (c + 1) w t psw)
even_opposite c w t psw l h e = next_pair w t psw c l h e
