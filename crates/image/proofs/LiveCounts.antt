-- Reading works the live counts out, and a state read back has those that it had.
use Rattle.std.specs.Prelude.{ℕ, ◌≡◌, refl, true, List, length}
use Rattle.step.specs.State.{State}
use Rattle.step.specs.Soundness.{sound}
use Rattle.step.proofs.LiveCounts.{Counted}
use Rattle.image.specs.Codec.{Bytes}
use Rattle.image.specs.Image.{Image, good, state_of, image_of, decode}
use Rattle.image.proofs.Laws.LiveCounts.{read_total, counts_again, total_again}

-- after reading, the counts that are stored are those found by counting
pub read_counted : (i : Image) → Counted (state_of i).table.users
unfolding state_of
read_counted i = record { counts = refl; total = refl }

-- and their total is the number of the image's processes
pub read_processes : (bytes : List ℕ) → Bytes bytes → (i : Image) → decode bytes ≡ good i → (state_of i).table.users.count ≡ length i.processes
read_processes b hb i h = read_total b hb i h

-- a sound state that is written and read has the counts that it had
pub read_back_counts : (s : State) → sound s ≡ true → (state_of (image_of s)).table.users.live ≡ s.table.users.live
read_back_counts s e = counts_again s e

pub read_back_total : (s : State) → sound s ≡ true → (state_of (image_of s)).table.users.count ≡ s.table.users.count
read_back_total s e = total_again s e
