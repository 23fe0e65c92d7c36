-- Sound jobs: how many they are, and how large.
use Rattle.std.specs.Prelude.{ℕ, ◌≤◌, ◌<◌, ◌≡◌, true, List, length, get_or}
use Rattle.std.proofs.Common.{arith}
use Rattle.std.proofs.lemmas.Bool.{and_parts}
use Rattle.std.proofs.lemmas.Bool.Decides.{nat_tests}
use Rattle.std.proofs.lemmas.List.Sums.{AllPass-from_list_all}
use Rattle.window.specs.Limits.{most_registers}
use Rattle.filling.specs.Filling.{most_jobs, need_sound, needs_sound, jobs_sound}

need_small : (n : ℕ) → need_sound n ≡ true → n ≤ most_registers
unfolding need_sound
need_small n e = grind (arith, nat_tests)

pub few_jobs : (needs : List ℕ) → jobs_sound needs ≡ true → length needs ≤ most_jobs
unfolding jobs_sound
few_jobs needs e = grind (arith, nat_tests)

pub small_needs : (needs : List ℕ) (i : ℕ) → jobs_sound needs ≡ true → i < length needs → get_or needs i 0 ≤ most_registers
unfolding jobs_sound needs_sound
small_needs needs i e h = need_small _ (AllPass-from_list_all need_sound needs (and_parts _ _ e).1 i 0 h)
