-- Constants, as instances that compute.
use Rattle.std.specs.Prelude.{◌≡◌, refl, true, false, [], ◌∷◌}
use Rattle.window.specs.Memories.{Memory, memory, cell, constant_at}
use Rattle.window.specs.Sound.{quality_sound}

-- two constants: quality 3 and word 7, quality 5 and word 9
unfoldable pub two_constants : Memory
two_constants = memory (3 ∷ 5 ∷ []) (7 ∷ 9 ∷ [])

pub record ConstantTrials : Type 0 where
  -- each with its own quality
  pub first : constant_at two_constants 0 ≡ cell 3 7
  pub second : constant_at two_constants 1 ≡ cell 5 9
  -- past the count
  pub past : constant_at two_constants 2 ≡ cell 0 0
  -- the last quality that is one
  pub six : quality_sound 6 ≡ true
  pub seven : quality_sound 7 ≡ false

pub constant_trials : ConstantTrials
unfolding two_constants constant_at quality_sound
constant_trials = record { first = refl; second = refl; past = refl; six = refl; seven = refl }
